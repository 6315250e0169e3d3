-- A type number as text. Assumes nothing.
use Rattle.std.specs.Prelude.{ℕ, cond, List, [], ◌++◌, codes, decimal, nat_lt}
use Rattle.book.specs.declared.number.TypeNumber.{TypeNumber}

-- a sub number of fewer than three digits is padded with zeros to three
abbrev pub padding : ℕ → List ℕ
padding n = cond (nat_lt n 10) (codes "00") (cond (nat_lt n 100) (codes "0") [])

abbrev pub show_sub : ℕ → List ℕ
show_sub n = padding n ++ decimal n

abbrev pub show_number : TypeNumber → List ℕ
show_number n = decimal n.main ++ (codes "." ++ show_sub n.sub)
