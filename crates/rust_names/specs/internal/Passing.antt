-- What is promised of three things: the loop that reads frames, paths of v0 names that are not
-- shown, and constants that were read before.
use Rattle.std.specs.Prelude.{◌≡◌, ℕ, ◌+◌, ◌<◌, ◌≤◌, Bool, true, false, List, [], ◌++◌, length, reverse, take, drop, Option, Some, IfSome, MatchOption}
use Rattle.std.specs.Borrow.{Bor}
use Rattle.std.specs.Option.{option_and_then, option_to_list}
use Rattle.std.specs.Ordering.{nat_cmp}
use Rattle.std.specs.BTreeMap.{BTreeMap, get}
use Rattle.rust_names.specs.declared.grammar.Kind.TheVariants as kind
use Rattle.rust_names.specs.declared.grammar.Inner.TheVariants as inner
use Rattle.rust_names.specs.declared.constants.Constant.{Constant}
use Rattle.rust_names.specs.declared.grammar.Leaf.{Leaf}
use Rattle.rust_names.specs.declared.grammar.Leaf.TheVariants as leaf
use Rattle.rust_names.specs.declared.grammar.Part.{Part}
use Rattle.rust_names.specs.declared.grammar.Part.TheVariants.{Deep, Inner as Within}
use Rattle.rust_names.specs.declared.grammar.Scope.{Scope}
use Rattle.rust_names.specs.declared.grammar.Frame.{Frame}
use Rattle.rust_names.specs.declared.turns.Stop.{Stop}
use Rattle.rust_names.specs.V0Numbers.{hex_digits, hex_from}
use Rattle.rust_names.specs.V0Names.{State, read_level}
use Rattle.rust_names.specs.internal.Running.{at, run, weight}

-- `rest` is a suffix of `bytes`
pub record IsEnd (bytes rest : List ℕ) : Type 0 where
  pub place : ℕ
  pub is : rest ≡ drop place bytes

-- a scope in which nothing is shown
abbrev pub dark : ℕ → Scope
dark bound = record { bound = bound; visible = false }

-- the path of an impl
abbrev pub is_hidden : Part → Bool
is_hidden (Within inner.ImplPath) = true
is_hidden p = false

-- one turn of the loop: it replaces frames and a state by other frames, a text, and the bytes that
-- are left
pub record Turned (name : List ℕ) (old : List Frame) (s : State) (new : List Frame) (text : List ℕ) (opened : Bool) (o : Option (Bor (List ℕ))) : Type 0 where
  pub same : run name (reverse old) s ≡ option_and_then (λ a. run name (reverse new) (at a.now text opened)) o
  pub lighter : IfSome o (λ _. weight (length name) new < weight (length name) old)
  pub ends : IfSome o (λ a. IsEnd name a.now)

-- turns up to the end, or up to the path of an impl if the loop is to stop there
pub record Stopped (name : List ℕ) (old : List Frame) (s : State) (stops : Bool) (new : List Frame) (text : List ℕ) (opened : Bool) (stop : Stop) : Type 0 where
  pub same : run name (reverse old) s ≡ run name (reverse (new ++ option_to_list stop.hidden)) (at stop.rest.now text opened)
  pub lighter : weight (length name) (new ++ option_to_list stop.hidden) ≤ weight (length name) old
  pub ends : IsEnd name stop.rest.now
  pub hidden : MatchOption stop.hidden (new ≡ []) (λ f. (stops ≡ true) × (is_hidden f.part ≡ true))

-- reading a path that is not shown leaves the bytes `after`, whatever is bound and was shown before
abbrev pub Reads : List ℕ → ℕ → List ℕ → Bool → List ℕ → Bool → Type 0
Reads name levels rest opened after leaves = (bound : ℕ) (text : List ℕ) → read_level name levels (Deep kind.Path) (dark bound) (at rest text opened) ≡ Some (at after text leaves)

-- a constant given by a value
abbrev pub is_constant : Leaf → Bool
is_constant leaf.Number = true
is_constant leaf.Boolean = true
is_constant leaf.Character = true
is_constant a = false

-- what is known of the constant at the start of the bytes
pub record IsConstant (bytes : List ℕ) (c : Constant) : Type 0 where
  pub digits : hex_digits bytes ≡ Some (take c.count bytes, drop (c.count + 1) bytes)
  pub value : hex_from 0 (take c.count bytes) ≡ c.value
  pub within : c.count < length bytes

abbrev pub AreConstants : List ℕ → BTreeMap ℕ Constant → Type 0
AreConstants name known = (place : ℕ) → IfSome (get nat_cmp known place) (IsConstant (drop place name))
