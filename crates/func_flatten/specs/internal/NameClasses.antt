-- The classes of functions by their names. The class of a name is the number of a function that has it.
use Rattle.std.specs.Prelude.{◌≡◌, ℕ, if◌then◌else◌, List, [], ◌∷◌, Option, None, Some}
use Rattle.std.specs.BTreeMap as tree
use Rattle.std.specs.BTreeMap.{BTreeMap}
use Rattle.std.specs.Cmp.Lexicographic.{slice_cmp}
use Rattle.std.specs.Global.{Vec}
use Rattle.std.specs.Ordering.{nat_cmp}
use Rattle.std.specs.Str.{bytes_eq}
use Rattle.debug_units.specs.declared.unit_read.UnitRead.{UnitRead}
use Rattle.step_maps.specs.declared.stretch.Stretch.{Stretch}
use Rattle.func_flatten.specs.declared.name_classes.Bearers.{Bearers}
use Rattle.func_flatten.specs.declared.name_classes.NameClasses.{NameClasses}
use Rattle.func_flatten.specs.internal.NameKeys.{kept, hash_of}
use Rattle.func_flatten.specs.internal.ScopeFronts.{inner_front, AreNoted}

-- the class of each name is the number of a function with this name
abbrev pub AreNumbersOf : (ℕ → List ℕ) → (List ℕ → Option ℕ) → Type 0
AreNumbersOf name number = (text : List ℕ) (n : ℕ) → number text ≡ Some n → name n ≡ text

-- each name keeps its class
abbrev pub Stays : (List ℕ → Option ℕ) → (List ℕ → Option ℕ) → Type 0
Stays old new = (text : List ℕ) (n : ℕ) → old text ≡ Some n → new text ≡ Some n

-- the class of a name whose text is stored
unfoldable pub rare_at : BTreeMap (Vec ℕ) ℕ → List ℕ → Option ℕ
rare_at rare text = tree.get_by (λ k. slice_cmp nat_cmp text k.items) rare

-- the class of a name, given the functions whose names have its hash: if these names differ, their texts are stored, and otherwise the first function
-- gives the class of its own name
abbrev pub class_among : (ℕ → List ℕ) → BTreeMap (Vec ℕ) ℕ → List ℕ → Option Bearers → Option ℕ
class_among name rare text None = None
class_among name rare text (Some b) = if b.differ then rare_at rare text else if bytes_eq (name b.first) text then Some b.first else None

abbrev pub class_in : (ℕ → List ℕ) → BTreeMap ℕ Bearers → BTreeMap (Vec ℕ) ℕ → List ℕ → Option ℕ
class_in name firsts rare text = class_among name rare text (tree.get nat_cmp firsts (hash_of text))

unfoldable pub class_at : (ℕ → List ℕ) → NameClasses → List ℕ → Option ℕ
class_at name classes text = class_in name classes.firsts classes.rare text

-- the first and the last function of a hash have the same name, and its hash is this hash
unfoldable pub AreAlike : (ℕ → List ℕ) → BTreeMap ℕ Bearers → Type 0
AreAlike name firsts = (hash : ℕ) (b : Bearers) → tree.get nat_cmp firsts hash ≡ Some b → (name b.last ≡ name b.first) × (hash_of (name b.first) ≡ hash)

-- the class that is noted for each root is that of the text that the root and the scopes around it give
unfoldable pub AreRoots : List UnitRead → (List ℕ → Option ℕ) → BTreeMap ℕ ℕ → Type 0
AreRoots units class roots = AreNoted (λ unit entry n. class (kept (inner_front units unit entry)) ≡ Some n) roots

-- what is stored is true of the names of the functions
pub record AreHeld (units : List UnitRead) (name : ℕ → List ℕ) (classes : NameClasses) : Type 0 where
  pub alike : AreAlike name classes.firsts
  pub numbers : AreNumbersOf name (rare_at classes.rare)
  pub roots : AreRoots units (class_at name classes) classes.roots

-- more names may have classes than before
pub record Grows (units : List UnitRead) (name : ℕ → List ℕ) (old new : NameClasses) : Type 0 where
  pub held : AreHeld units name new
  pub stays : Stays (class_at name old) (class_at name new)

-- the class of each stretch's function is the number of a function with the same name
abbrev pub AreNamed : (ℕ → List ℕ) → (ℕ → ℕ) → List Stretch → Type 0
AreNamed name class [] = Prim.Unit {0}
AreNamed name class (s ∷ items) = (name (class s.index) ≡ name s.index) × AreNamed name class items

-- the stretches `named` are `items`, each with the number of its function's name as its class
abbrev pub AreClassed : (List ℕ → Option ℕ) → (ℕ → List ℕ) → List Stretch → List Stretch → Type 0
AreClassed number name [] [] = Prim.Unit {0}
AreClassed number name (s ∷ items) (t ∷ named) =
    (t ≡ record { first = s.first; last = s.last; index = s.index; class = t.class }) × (number (name s.index) ≡ Some t.class) × AreClassed number name items named
AreClassed number name _ _ = ⊥

-- a class for each function. Functions with the same name have the same class. The class of a
-- stretch's function is the number of a function with the same name
pub record IsClass (name : ℕ → List ℕ) (class : ℕ → ℕ) (items : List Stretch) : Type 0 where
  pub alike : (i j : ℕ) → name i ≡ name j → class i ≡ class j
  pub named : AreNamed name class items
