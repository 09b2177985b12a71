-- The parts of an answer.
use Rattle.std.proofs.Common.{◌≡◌, ◌<◌, ◌^◌, ℕ, Bool, List, length, Option, sym, ap, subst, ◌∙◌}
use Rattle.sym_records.specs.declared.line.SymLine.{SymLine}
use Rattle.step_maps.specs.Stepping.{Stepping}
use Rattle.step_maps.specs.declared.stretch.FirstItem.{FirstItem}
use Rattle.sym_lookup.specs.declared.under.Under.{Under}
use Rattle.sym_lookup.specs.Answers.{chain_places, line_place}
use Rattle.sym_lookup.specs.UnderOf.{chain_in, IsLineFinder, IsUnder, AreUnders}
use Rattle.sym_lookup.specs.internal.HeldUnders.{is_held, AreHeld}

pub levels_told : (lines : List SymLine) (unders all : List Under) (u : Under) (maps : List (Stepping (Option FirstItem))) (func x : ℕ) → all ≡ unders → maps ≡ u.levels.items → u.func ≡ func → ((ls : List SymLine) → AreUnders ls all → IsUnder ls u) → AreUnders lines unders → x < 2 ^ 64
    → chain_in maps x ≡ chain_places lines func x
levels_told lines unders all u maps func x same m f told are fits =
    let is : IsUnder lines u = told lines (subst (AreUnders lines) (sym same) are) in
    ap (λ ms. chain_in ms x) m ∙ is.chain x fits ∙ ap (λ n. chain_places lines n x) f

pub line_told : (lines file : List SymLine) (unders all : List Under) (u : Under) → all ≡ unders → lines ≡ file → ((ls : List SymLine) → AreUnders ls all → IsUnder ls u) → AreUnders file unders → IsLineFinder lines u.func u.lines
line_told lines file unders all u same e told are =
    let is : IsUnder file u = told file (subst (AreUnders file) (sym same) are) in
    subst (λ ls. IsLineFinder ls u.func u.lines) (sym e) is.line

pub line_found : (lines file : List SymLine) (n func x : ℕ) (line : Option ℕ) → lines ≡ file → n ≡ func → line ≡ line_place lines n x → line ≡ line_place file func x
line_found lines file n func x line e f is = is ∙ ap (λ ls. line_place ls n x) e ∙ ap (λ m. line_place file m x) f

pub held_told : (lines : List SymLine) (unders all : List Under) (func : ℕ) (told : Bool) → all ≡ unders → ((ls : List SymLine) → AreHeld ls 0 (length ls) all → told ≡ is_held ls func) → AreHeld lines 0 (length lines) unders → told ≡ is_held lines func
held_told lines unders all func told same tells held = tells lines (subst (AreHeld lines 0 (length lines)) (sym same) held)
