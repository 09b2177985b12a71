-- The records directly under a FUNC.
use Rattle.std.proofs.Common.{◌≡◌, ◌+◌, ◌<◌, ◌≤◌, ◌++◌, ℕ, zero, suc, true, false, List, [], ◌∷◌, length, get_or, take, drop, refl, sym, ap, ◌∙◌, max, arith, add-one}
use Rattle.sym_records.specs.declared.line.SymLine.{SymLine}
use Rattle.sym_records.specs.declared.line.SymLine.TheVariants.{Inline, Line}
use Rattle.sym_meaning.specs.TextNames.{under, level_count}
use Rattle.sym_lookup.specs.internal.Scans.{is_under, level_end}

pub under_begins : (lines : List SymLine) → under lines ≡ take 0 lines ++ under (drop 0 lines)
under_begins lines = refl

first_under : (s : SymLine) (lines : List SymLine) → is_under s ≡ true → under (s ∷ lines) ≡ s ∷ under lines
first_under (Inline level line file origin ranges) lines h = refl
first_under (Line address size line file) lines h = refl
first_under _ lines h = cc

none_first : (s : SymLine) (lines : List SymLine) → is_under s ≡ false → under (s ∷ lines) ≡ []
none_first (Inline level line file origin ranges) lines h = cc
none_first (Line address size line file) lines h = cc
none_first _ lines h = refl

more_at : (lines : List SymLine) (at : ℕ) (d : SymLine) → at < length lines → is_under (get_or lines at d) ≡ true → take at lines ++ under (drop at lines) ≡ take (suc at) lines ++ under (drop (suc at) lines)
more_at [] at d l h = absurd (omega arith)
more_at (s ∷ lines) zero d l h = first_under s lines h
more_at (s ∷ lines) (suc at) d l h = ap (λ xs. s ∷ xs) (more_at lines at d (omega arith) h)

pub under_more : (lines : List SymLine) (at : ℕ) (line : SymLine) → under lines ≡ take at lines ++ under (drop at lines) → line ≡ get_or lines at line → at < length lines → is_under line ≡ true → under lines ≡ take (at + 1) lines ++ under (drop (at + 1) lines)
under_more lines at line e is l h = rw add-one (e ∙ more_at lines at line l (ap is_under (sym is) ∙ h))

stops_at : (lines : List SymLine) (at : ℕ) (d : SymLine) → at < length lines → is_under (get_or lines at d) ≡ false → take at lines ++ under (drop at lines) ≡ take at lines
stops_at [] at d l h = absurd (omega arith)
stops_at (s ∷ lines) zero d l h = none_first s lines h
stops_at (s ∷ lines) (suc at) d l h = ap (λ xs. s ∷ xs) (stops_at lines at d (omega arith) h)

pub under_stops : (lines : List SymLine) (at : ℕ) (line : SymLine) → under lines ≡ take at lines ++ under (drop at lines) → line ≡ get_or lines at line → at < length lines → is_under line ≡ false → under lines ≡ take at lines
under_stops lines at line e is l h = e ∙ stops_at lines at line l (ap is_under (sym is) ∙ h)

all_at : (lines : List SymLine) (at : ℕ) → length lines ≤ at → take at lines ++ under (drop at lines) ≡ lines
all_at [] zero l = refl
all_at [] (suc at) l = refl
all_at (s ∷ lines) zero l = absurd (omega arith)
all_at (s ∷ lines) (suc at) l = ap (λ xs. s ∷ xs) (all_at lines at (omega arith))

pub under_all : (lines : List SymLine) (at : ℕ) → under lines ≡ take at lines ++ under (drop at lines) → length lines ≤ at → under lines ≡ lines
under_all lines at e l = e ∙ all_at lines at l

pub levels_more : (s : SymLine) (lines : List SymLine) → level_count (s ∷ lines) ≡ max (level_end s) (level_count lines)
levels_more (Inline level line file origin ranges) lines = refl
levels_more _ lines = omega arith
