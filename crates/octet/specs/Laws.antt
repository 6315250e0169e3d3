-- The types of one octet are lawful. Assumes nothing.
use Rattle.std.proofs.Common.{ℕ, ◌<◌, rules}
use Rattle.datapoint.specs.Meaning.{Lawful}
use Rattle.octet.specs.declared.scene.Flag.{Flag}
use Rattle.octet.specs.Range.{up_to}
use Rattle.octet.specs.Control.{controlled}
use Rattle.octet.specs.Step.{stepped}
use Rattle.octet.specs.Scene.{flagged}

pub up_to_lawful : (highest : ℕ) → highest < 256 → Lawful (up_to highest)
up_to_lawful highest h = search rules

pub controlled_lawful : Lawful controlled
controlled_lawful = search rules

pub stepped_lawful : Lawful stepped
stepped_lawful = search rules

pub flagged_lawful : (flag : Flag) → Lawful (flagged flag)
flagged_lawful flag = search rules
