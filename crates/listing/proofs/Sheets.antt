-- The octets of a sheet. Assumes nothing.
use Rattle.std.proofs.Common.{◌≡◌, ℕ, ◌+◌, ◌-◌, ◌≤◌, List, length, drop, set, replicate, sym, ap, ◌∙◌, arith}
use borrow.Rule.Slice.PartMut.{put_mid}
use Rattle.std.proofs.lemmas.List.{drop-drop, drop-set-lt, drop-replicate}
use Rattle.std.proofs.lemmas.Slice.{drop-put_mid}

-- a text that grows to n octets leaves zeros behind it
pub zeros_left : (room len n : ℕ) (octets more : List ℕ) → length octets ≡ room → drop len octets ≡ replicate (room - len) 0 → len ≤ n → n ≤ room → length more ≡ n - len → drop n (put_mid len (n - len) octets more) ≡ replicate (room - n) 0
zeros_left room len n octets more all zeros on fits long =
    let whole : len + (n - len) ≡ n = omega arith in
    let less : room - len - (n - len) ≡ room - n = omega arith in
    drop-put_mid len (n - len) octets more n (omega arith) (omega arith) long
    ∙ ap (λ m. drop m octets) (sym whole)
    ∙ sym (drop-drop (n - len) len octets)
    ∙ ap (drop (n - len)) zeros
    ∙ drop-replicate (n - len) (room - len) 0
    ∙ ap (λ m. replicate m 0) less

-- a text that grows by one octet leaves zeros behind it
pub zeros_behind : (room len : ℕ) (octets : List ℕ) (octet : ℕ) → drop len octets ≡ replicate (room - len) 0 → drop (len + 1) (set octets len octet) ≡ replicate (room - (len + 1)) 0
zeros_behind room len octets octet zeros =
    let less : room - len - 1 ≡ room - (len + 1) = omega arith in
    drop-set-lt (len + 1) octets len octet (omega arith)
    ∙ sym (drop-drop 1 len octets)
    ∙ ap (drop 1) zeros
    ∙ drop-replicate 1 (room - len) 0
    ∙ ap (λ m. replicate m 0) less
