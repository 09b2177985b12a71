-- Each part of a head's flags can be read back; for `flags_of` and `Head::with_rest`.
use Rattle.std.proofs.Common.{◌≡◌, ◌<◌, ◌+◌, ◌*◌, ◌/◌, ◌%◌, ℕ, Bool, true, false, nat_eq, cond, refl, ap, ◌∙◌, arith}

bit_is : (so : Bool) → nat_eq (cond so 1 0) 1 ≡ so
bit_is true = refl
bit_is false = refl

bit_small : (so : Bool) → cond so 1 0 < 2
bit_small true = omega arith
bit_small false = omega arith

pub parent_made : (parent declaration : Bool) (link flags : ℕ) → flags ≡ cond parent 1 0 + 2 * cond declaration 1 0 + 4 * link → nat_eq (flags % 2) 1 ≡ parent
parent_made parent declaration link flags is =
    let same : flags % 2 ≡ cond parent 1 0 = omega (arith, is, bit_small parent, bit_small declaration) in
    ap (λ n. nat_eq n 1) same ∙ bit_is parent

pub declaration_made : (parent declaration : Bool) (link flags : ℕ) → flags ≡ cond parent 1 0 + 2 * cond declaration 1 0 + 4 * link → nat_eq (flags / 2 % 2) 1 ≡ declaration
declaration_made parent declaration link flags is =
    let same : flags / 2 % 2 ≡ cond declaration 1 0 = omega (arith, is, bit_small parent, bit_small declaration) in
    ap (λ n. nat_eq n 1) same ∙ bit_is declaration

pub link_made : (parent declaration : Bool) (link flags : ℕ) → link < 3 → flags ≡ cond parent 1 0 + 2 * cond declaration 1 0 + 4 * link → flags / 4 % 4 ≡ link
link_made parent declaration link flags small is = omega (arith, is, small, bit_small parent, bit_small declaration)

pub flags_small : (parent declaration : Bool) (link flags : ℕ) → link < 3 → flags ≡ cond parent 1 0 + 2 * cond declaration 1 0 + 4 * link → flags < 16
flags_small parent declaration link flags small is = omega (arith, is, small, bit_small parent, bit_small declaration)
