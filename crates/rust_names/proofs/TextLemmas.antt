-- Texts that grow up to their limit.
use Rattle.std.proofs.Common.{◌≡◌, ◌≢◌, ℕ, suc, ◌+◌, ◌-◌, ◌<◌, ◌≤◌, ◌==◌, cond, Bool, true, false, List, ◌++◌, length, codes, Option, Some, None, nat_le, refl, sym, ◌∙◌, ap, arith, append_assoc, length-append}
use Rattle.std.proofs.lemmas.Bool.{le-leb, lt-leb}
use Rattle.std.proofs.lemmas.Bool.Decides.{nat_tests}
use Rattle.rust_names.specs.V0Texts.{say, lifetime_name, lifetime_text, next_lifetime, lifetimes_from}
use Rattle.rust_names.specs.internal.Reading.{kept}

pub say_over : (text more : List ℕ) → 65536 < length text + length more → say text more ≡ None
say_over text more over = ap (λ b. cond b (Some (text ++ more)) None) (lt-leb (length (text ++ more)) 65536 (omega (arith, length-append text more)))

pub say_fits : (text more : List ℕ) → length text + length more ≤ 65536 → say text more ≡ Some (text ++ more)
say_fits text more fits = ap (λ b. cond b (Some (text ++ more)) None) (le-leb (length (text ++ more)) 65536 (omega (arith, length-append text more)))

said_by : (b : Bool) (found mid : List ℕ) → cond b (Some found) None ≡ Some mid → (b ≡ true) × (found ≡ mid)
said_by true found mid is = (refl, cc)
said_by false found mid is = cc

said : (text xs mid : List ℕ) → say text xs ≡ Some mid → text ++ xs ≡ mid
said text xs mid is = (said_by (nat_le (length (text ++ xs)) 65536) (text ++ xs) mid is).1

not_said : (b : Bool) (found : List ℕ) → cond b (Some found) None ≡ None → b ≡ false
not_said true found is = cc
not_said false found is = refl

grouped : (text xs ys : List ℕ) → say text (xs ++ ys) ≡ say (text ++ xs) ys
grouped text xs ys = ap (λ t. cond (nat_le (length t) 65536) (Some t) None) (sym (append_assoc text xs ys))

pub said_then : (text xs ys mid : List ℕ) (r : Option (List ℕ)) → say text xs ≡ Some mid → say mid ys ≡ r → say text (xs ++ ys) ≡ r
said_then text xs ys mid r first second = grouped text xs ys ∙ ap (λ t. say t ys) (said text xs mid first) ∙ second

pub said_stop : (text xs ys : List ℕ) → say text xs ≡ None → say text (xs ++ ys) ≡ None
said_stop text xs ys stops =
    let long : (nat_le (length (text ++ xs)) 65536) ≡ false = not_said (nat_le (length (text ++ xs)) 65536) (text ++ xs) stops in
    let over : 65536 < length (text ++ xs) = grind (arith, nat_tests) in
    say_over text (xs ++ ys) (omega (arith, over, length-append text xs, length-append xs ys))

pub say_then : (text xs ys mid : List ℕ) (b : Bool) (r : Option (List ℕ)) → say text xs ≡ kept b mid → b ≡ true → say mid ys ≡ r → say text (xs ++ ys) ≡ r
say_then text xs ys mid true r first is second = said_then text xs ys mid r first second
say_then text xs ys mid false r first is second = cc

pub say_stop : (text xs ys mid : List ℕ) (b : Bool) → say text xs ≡ kept b mid → b ≡ false → say text (xs ++ ys) ≡ None
say_stop text xs ys mid false stops is = said_stop text xs ys stops
say_stop text xs ys mid true stops is = cc

-- A lifetime.

pub unbound : (bound n : ℕ) → n ≢ 0 → bound < n → lifetime_text bound n ≡ None
unbound bound n some over = ap (λ b. cond b (Some (codes "'_")) (cond (nat_le n bound) (Some (lifetime_name (bound - n))) None)) (let t : (n == 0) ≡ false = grind (arith, nat_tests) in t) ∙ ap (λ b. cond b (Some (lifetime_name (bound - n))) None) (lt-leb n bound over)

pub nameless : (bound n : ℕ) → n ≡ 0 → lifetime_text bound n ≡ Some (codes "'_")
nameless bound n none = ap (λ b. cond b (Some (codes "'_")) (cond (nat_le n bound) (Some (lifetime_name (bound - n))) None)) (let t : (n == 0) ≡ true = grind (arith, nat_tests) in t)

pub bound_so : (bound n : ℕ) → n ≢ 0 → n ≤ bound → lifetime_text bound n ≡ Some (lifetime_name (bound - n))
bound_so bound n some within = ap (λ b. cond b (Some (codes "'_")) (cond (nat_le n bound) (Some (lifetime_name (bound - n))) None)) (let t : (n == 0) ≡ false = grind (arith, nat_tests) in t) ∙ ap (λ b. cond b (Some (lifetime_name (bound - n))) None) (le-leb n bound within)

-- Several texts that are added one after the other.

pub lifetimes_more : (count i depth : ℕ) → i < count → lifetimes_from (count - i) (depth + i) ≡ next_lifetime (depth + i) ++ lifetimes_from (count - (i + 1)) (depth + (i + 1))
lifetimes_more count i depth within =
    let n = count - (i + 1) in
    let more : count - i ≡ suc n = omega arith in
    ap (λ k. lifetimes_from k (depth + i)) more ∙ ap (λ d. next_lifetime (depth + i) ++ lifetimes_from n d) (let e : depth + i + 1 ≡ depth + (i + 1) = omega arith in e)

pub step_on : (first text mid xs ys all : List ℕ) (b : Bool) → say first all ≡ say text (xs ++ ys) → say text xs ≡ kept b mid → b ≡ true → say first all ≡ say mid ys
step_on first text mid xs ys all b so_far is holds = so_far ∙ say_then text xs ys mid b (say mid ys) is holds refl

pub step_off : (first text mid xs ys all : List ℕ) (b : Bool) → say first all ≡ say text (xs ++ ys) → say text xs ≡ kept b mid → b ≡ false → say first all ≡ None
step_off first text mid xs ys all b so_far is fails = so_far ∙ say_stop text xs ys mid b is fails
