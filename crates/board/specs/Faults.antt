-- Why a text does not load. Assumes nothing.
use Rattle.std.specs.Prelude.{ℕ, Ok, Err, Result}
use Rattle.datapoint.specs.declared.refusal.Refusal.{Refusal}
use Rattle.datapoint.specs.declared.refusal.Refusal.TheVariants as refused
use Rattle.model.specs.Load as load
use Rattle.board.specs.declared.fault.Cause.{Cause}
use Rattle.board.specs.declared.fault.Cause.TheVariants.{BrokenLine, NoSuchPoint, NotAbove, UnknownType, WrongLength, IllegalReading}
use Rattle.board.specs.declared.fault.Fault.{Fault}

-- each cause with its number; a wrong length comes without the count due
abbrev pub cause_number : Cause → ℕ
cause_number NoSuchPoint = 1
cause_number NotAbove = 2
cause_number UnknownType = 4
cause_number WrongLength = 8
cause_number IllegalReading = 10
cause_number BrokenLine = 12

abbrev pub fault_of : Fault → load.Fault
fault_of f = record { line = f.line; cause = cause_number f.cause }

-- what load answers
abbrev pub load_answer : {A B : Type 0} → (A → B) → Result A Fault → Result B load.Fault
load_answer f (Ok a) = Ok (f a)
load_answer f (Err e) = Err (fault_of e)

-- what a line gives, or its cause
abbrev pub cause_answer : {A B : Type 0} → (A → B) → Result A Cause → Result B ℕ
cause_answer f (Ok a) = Ok (f a)
cause_answer f (Err e) = Err (cause_number e)

-- why a line is faulty whose point, type or reading is refused
abbrev pub cause_of : Refusal → Cause
cause_of refused.NoSuchPoint = NoSuchPoint
cause_of (refused.WrongLength due) = WrongLength
cause_of refused.IllegalReading = IllegalReading
cause_of refused.BrokenLine = BrokenLine
cause_of _ = UnknownType
