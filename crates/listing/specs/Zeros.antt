-- Zeros behind a text. Assumes nothing.
use Rattle.std.specs.Prelude.{◌≡◌, ℕ, ◌-◌, ◌≤◌, List, ◌++◌, length, take, drop, replicate}
use Rattle.std.proofs.Common.{sym, ap, ◌∙◌, subst}
use Rattle.std.proofs.lemmas.List.{length-take-le, take-append-drop}

-- a text with zeros behind it, so many octets in all
abbrev pub zero_filled : ℕ → List ℕ → List ℕ
zero_filled room text = text ++ replicate (room - length text) 0

-- the octets of a text and their count come back from the text
pub sheet_back : {S : Type 0} (room len : ℕ) (octets : List ℕ) → len ≤ room → length octets ≡ room → drop len octets ≡ replicate (room - len) 0 → (sheet : List ℕ → ℕ → S) → sheet (zero_filled room (take len octets)) (length (take len octets)) ≡ sheet octets len
sheet_back room len octets most all zeros sheet =
    let long : length (take len octets) ≡ len = length-take-le len octets (subst (λ n. len ≤ n) (sym all) most) in
    ap (λ n. sheet (take len octets ++ replicate (room - n) 0) n) long
    ∙ ap (λ t. sheet (take len octets ++ t) len) (sym zeros)
    ∙ ap (λ t. sheet t len) (take-append-drop len octets)
