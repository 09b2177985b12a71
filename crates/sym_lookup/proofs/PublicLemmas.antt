-- The PUBLIC before an address, found by a scan.
use Rattle.std.proofs.Common.{◌≡◌, ◌+◌, ◌<◌, ◌≤◌, ℕ, zero, suc, List, [], ◌∷◌, length, get_or, drop, Option, None, refl, sym, ap, ◌∙◌, arith, drop-cons}
use Rattle.sym_records.specs.declared.line.SymLine.{SymLine}
use Rattle.sym_lookup.specs.Answers.{nearer, nearest_public}

pub nearest_more : (lines : List SymLine) (x at place : ℕ) (line : SymLine) (nearest : Option ℕ) → nearest ≡ nearest_public (drop at lines) x → place + 1 ≡ at → line ≡ get_or lines place line → place < length lines
    → nearer x line nearest ≡ nearest_public (drop place lines) x
unfolding nearest_public
nearest_more lines x at place line nearest e n is l =
    let one : at ≡ suc place = omega arith in
    let cut : drop place lines ≡ line ∷ drop (suc place) lines = drop-cons lines place line l ∙ ap (λ s. s ∷ drop (suc place) lines) (sym is) in
    ap (nearer x line) (e ∙ ap (λ n. nearest_public (drop n lines) x) one) ∙ ap (λ ls. nearest_public ls x) (sym cut)

none_left : (lines : List SymLine) (x at : ℕ) → length lines ≤ at → nearest_public (drop at lines) x ≡ None
unfolding nearest_public
none_left [] x zero l = refl
none_left [] x (suc at) l = refl
none_left (s ∷ lines) x zero l = absurd (omega arith)
none_left (s ∷ lines) x (suc at) l = none_left lines x at (omega arith)

pub nearest_end : (lines : List SymLine) (x at : ℕ) → at ≡ length lines → None ≡ nearest_public (drop at lines) x
nearest_end lines x at e = sym (none_left lines x at (omega arith))

pub nearest_all : (lines : List SymLine) (x : ℕ) (nearest : Option ℕ) → nearest ≡ nearest_public (drop 0 lines) x → nearest ≡ nearest_public lines x
nearest_all lines x nearest e = e
