-- Reading parts that are not shown does the same whatever was shown before, and if more levels may
-- nest.
use Rattle.std.proofs.Common.{◌≡◌, ◌≢◌, ℕ, zero, suc, ◌-◌, ◌≤◌, cond, Bool, true, false, List, [], ◌∷◌, ◌++◌, length, drop, reverse, Option, Some, None, refl, sym, ◌∙◌, ap, arith}
use Rattle.std.specs.Option.{option_map, option_and_then}
use Rattle.rust_names.specs.declared.grammar.Inner.{Inner}
use Rattle.rust_names.specs.declared.grammar.Inner.TheVariants as inner
use Rattle.rust_names.specs.declared.grammar.Item.TheVariants as item
use Rattle.rust_names.specs.declared.grammar.Kind.TheVariants as kind
use Rattle.rust_names.specs.declared.grammar.Leaf.{Leaf}
use Rattle.rust_names.specs.declared.grammar.Leaf.TheVariants as leaf
use Rattle.rust_names.specs.declared.grammar.Part.{Part}
use Rattle.rust_names.specs.declared.grammar.Part.TheVariants.{Deep, Back, Phrase as Made, Inner as Within, Leaf as Read, Goto, Opened}
use Rattle.rust_names.specs.declared.grammar.Scope.{Scope}
use Rattle.rust_names.specs.declared.grammar.Frame.{Frame}
use Rattle.rust_names.specs.declared.passing.Reached.{Reached}
use Rattle.rust_names.specs.V0Numbers.{front, after_letter}
use Rattle.rust_names.specs.V0Leaves.{leaf_of, read_leaf, shown_on}
use Rattle.rust_names.specs.V0Grammar.{phrase_parts, inner_parts, binder_parts, binder_by, begins_path, function_parts, list_of}
use Rattle.rust_names.specs.V0Names.{State, all, after_leaf, level_parts, most_width, read_within, read_level}
use Rattle.rust_names.specs.internal.Passing.{IsEnd, Reads, dark, is_hidden}
use Rattle.rust_names.specs.internal.Stepping.{Passes}
use Rattle.rust_names.specs.internal.Running.{at, inside, read_frame, run}
use Rattle.rust_names.proofs.EndLemmas.{placed}
use Rattle.rust_names.proofs.FrameLemmas.{run_one}

some_one : {A : Type 0} {x y : A} → Some x ≡ Some y → x ≡ y
some_one is = cc

-- The state with another text.
abbrev showing : List ℕ → State → State
showing text s = record s { text = text }

-- A leaf.

abbrev leaf_text : List ℕ → List ℕ → List ℕ × List ℕ
leaf_text after text = (after, text)

leaf_by : (text more : List ℕ) (x : List ℕ × List ℕ) (o : Option (Option (List ℕ) × List ℕ))
    → option_and_then (λ (y : Option (List ℕ) × List ℕ). option_map (leaf_text y.1) (shown_on false text y.0)) o ≡ Some x
    → option_and_then (λ (y : Option (List ℕ) × List ℕ). option_map (leaf_text y.1) (shown_on false more y.0)) o ≡ Some (x.0, more)
leaf_by text more x None is = cc
leaf_by text more x (Some y) is = ap (λ (z : List ℕ × List ℕ). Some (z.0, more)) (some_one is)

leaf_dark : (m n : ℕ) (rest text more : List ℕ) (x : List ℕ × List ℕ) (a : Leaf) → read_leaf a (dark m) rest text ≡ Some x → read_leaf a (dark n) rest more ≡ Some (x.0, more)
unfolding read_leaf leaf_of
leaf_dark m n rest text more x (leaf.Lifetime k) is = ap (λ (z : List ℕ × List ℕ). Some (z.0, more)) (some_one is)
leaf_dark m n rest text more x (leaf.ForAll k) is = ap (λ (z : List ℕ × List ℕ). Some (z.0, more)) (some_one is)
leaf_dark m n rest text more x (leaf.Say w) is = leaf_by text more x (leaf_of (leaf.Say w) n rest) is
leaf_dark m n rest text more x (leaf.Letter b) is = leaf_by text more x (leaf_of (leaf.Letter b) n rest) is
leaf_dark m n rest text more x (leaf.Index k) is = leaf_by text more x (leaf_of (leaf.Index k) n rest) is
leaf_dark m n rest text more x leaf.Disambiguator is = leaf_by text more x (leaf_of leaf.Disambiguator n rest) is
leaf_dark m n rest text more x leaf.Identifier is = leaf_by text more x (leaf_of leaf.Identifier n rest) is
leaf_dark m n rest text more x leaf.Convention is = leaf_by text more x (leaf_of leaf.Convention n rest) is
leaf_dark m n rest text more x leaf.Number is = leaf_by text more x (leaf_of leaf.Number n rest) is
leaf_dark m n rest text more x leaf.Boolean is = leaf_by text more x (leaf_of leaf.Boolean n rest) is
leaf_dark m n rest text more x leaf.Character is = leaf_by text more x (leaf_of leaf.Character n rest) is
leaf_dark m n rest text more x leaf.Text is = leaf_by text more x (leaf_of leaf.Text n rest) is
leaf_dark m n rest text more x leaf.End is = leaf_by text more x (leaf_of leaf.End n rest) is

leaf_after : (s t : State) (text : List ℕ) (o p : Option (List ℕ × List ℕ)) → ((x : List ℕ × List ℕ) → o ≡ Some x → p ≡ Some (x.0, text)) → option_map (after_leaf s) o ≡ Some t → option_map (after_leaf (showing text s)) p ≡ Some (showing text t)
leaf_after s t text None p same is = cc
leaf_after s t text (Some x) p same is = ap (option_map (after_leaf (showing text s))) (same x refl) ∙ ap (λ (u : State). Some (showing text u)) (some_one is)

-- Parts that are read one after the other.

abbrev pub SameDark : (Part → State → Option State) → (Part → State → Option State) → Type 0
SameDark f g = (p : Part) (s t : State) (text : List ℕ) → f p s ≡ Some t → g p (showing text s) ≡ Some (showing text t)

all_after : (f g : Part → State → Option State) (ps : List Part) (t : State) (text : List ℕ) (o p : Option State) → ((u : State) → all f ps u ≡ Some t → all g ps (showing text u) ≡ Some (showing text t)) → ((u : State) → o ≡ Some u → p ≡ Some (showing text u))
    → option_and_then (all f ps) o ≡ Some t → option_and_then (all g ps) p ≡ Some (showing text t)
all_after f g ps t text None p later first is = cc
all_after f g ps t text (Some u) p later first is = ap (option_and_then (all g ps)) (first u refl) ∙ later u is

all_dark : (f g : Part → State → Option State) → SameDark f g → (s t : State) (text : List ℕ) (ps : List Part) → all f ps s ≡ Some t → all g ps (showing text s) ≡ Some (showing text t)
all_dark f g same s t text [] is = ap (λ (u : State). Some (showing text u)) (some_one is)
all_dark f g same s t text (p ∷ ps) is = all_after f g ps t text (f p s) (g p (showing text s)) (λ u after. all_dark f g same u t text ps after) (λ u first. same p s u text first) is

parts_dark : (f g : Part → State → Option State) → SameDark f g → (s t : State) (text : List ℕ) (o : Option (List Part × List ℕ))
    → option_and_then (λ (x : List Part × List ℕ). all f x.0 (record s { rest = x.1 })) o ≡ Some t
    → option_and_then (λ (x : List Part × List ℕ). all g x.0 (record s { rest = x.1; text = text })) o ≡ Some (showing text t)
parts_dark f g same s t text None is = cc
parts_dark f g same s t text (Some x) is = all_dark f g same (record s { rest = x.1 }) t text x.0 is

-- A symbol with a scope of its own is read in a scope in which nothing is shown.

pub record DarkParts (m n : ℕ) (x : List Part × Scope × List ℕ) (o : Option (List Part × Scope × List ℕ)) : Type 0 where
  pub own : x.1 ≡ dark m
  pub same : o ≡ Some (x.0, dark n, x.2)

dark_at : (m n : ℕ) (parts : List Part) (rest : List ℕ) (x : List Part × Scope × List ℕ) → ◌≡◌ {A = Option (List Part × Scope × List ℕ)} (Some (parts, dark m, rest)) (Some x) → DarkParts m n x (Some (parts, dark n, rest))
dark_at m n parts rest x is = record {
  own = sym (ap (λ (y : List Part × Scope × List ℕ). y.1) (some_one is));
  same = ap (λ (y : List Part × Scope × List ℕ). Some (y.0, dark n, y.2)) (some_one is);
}

instance_dark : (m n : ℕ) (rest : List ℕ) (x : List Part × Scope × List ℕ) (b : Bool) → cond b (Some (Deep kind.Path ∷ [], dark m, rest)) (Some ([], dark m, rest)) ≡ Some x → DarkParts m n x (cond b (Some (Deep kind.Path ∷ [], dark n, rest)) (Some ([], dark n, rest)))
instance_dark m n rest x true is = dark_at m n (Deep kind.Path ∷ []) rest x is
instance_dark m n rest x false is = dark_at m n [] rest x is

binder_dark : (m n : ℕ) (parts : List Part) (x : List Part × Scope × List ℕ) (o : Option (ℕ × List ℕ)) → option_and_then (binder_by parts (dark m)) o ≡ Some x → DarkParts m n x (option_and_then (binder_by parts (dark n)) o)
binder_dark m n parts x None is = cc
binder_dark m n parts x (Some y) is = dark_at m n ((Read (leaf.ForAll y.0) ∷ []) ++ parts) y.1 x is

pub inner_dark : (m n : ℕ) (rest : List ℕ) (x : List Part × Scope × List ℕ) (p : Inner) → inner_parts p (dark m) rest ≡ Some x → DarkParts m n x (inner_parts p (dark n) rest)
unfolding inner_parts binder_parts
inner_dark m n rest x inner.ImplPath is = dark_at m n (Deep kind.Path ∷ []) rest x is
inner_dark m n rest x inner.Instance is = instance_dark m n rest x (begins_path (front rest)) is
inner_dark m n rest x inner.Function is = binder_dark m n function_parts x (after_letter 71 rest) is
inner_dark m n rest x inner.Object is = binder_dark m n (list_of item.Bound ∷ []) x (after_letter 71 rest) is

own_dark : (f g : Scope → Part → State → Option State) (m n : ℕ) → SameDark (f (dark m)) (g (dark n)) → (s t : State) (text : List ℕ) (o p : Option (List Part × Scope × List ℕ)) → ((x : List Part × Scope × List ℕ) → o ≡ Some x → DarkParts m n x p)
    → option_and_then (λ (x : List Part × Scope × List ℕ). all (f x.1) x.0 (record s { rest = x.2 })) o ≡ Some t
    → option_and_then (λ (x : List Part × Scope × List ℕ). all (g x.1) x.0 (record s { rest = x.2; text = text })) p ≡ Some (showing text t)
own_dark f g m n same s t text None p parts is = cc
own_dark f g m n same s t text (Some x) p parts is =
    let found = parts x refl in
    ap (option_and_then (λ (y : List Part × Scope × List ℕ). all (g y.1) y.0 (record s { rest = y.2; text = text }))) found.same
    ∙ all_dark (f (dark m)) (g (dark n)) same (record s { rest = x.2 }) t text x.0 (ap (λ scope. all (f scope) x.0 (record s { rest = x.2 })) (sym found.own) ∙ is)

-- A symbol within a level.

pub within_dark : (name : List ℕ) (d e : Part → Scope → State → Option State) (m n : ℕ) → ((p : Part) (s t : State) (text : List ℕ) → d p (dark m) s ≡ Some t → e p (dark n) (showing text s) ≡ Some (showing text t))
    → (a b : ℕ) → a ≤ b → SameDark (read_within d name a (dark m)) (read_within e name b (dark n))
within_dark name d e m n down a b fits (Deep k) s t text is = down (Deep k) s t text is
within_dark name d e m n down a b fits (Back k) s t text is = down (Back k) s t text is
within_dark name d e m n down a b fits (Read p) s t text is =
    leaf_after s t text (read_leaf p (dark m) s.rest s.text) (read_leaf p (dark n) s.rest text) (λ x reads. leaf_dark m n s.rest s.text text x p reads) is
within_dark name d e m n down a b fits (Goto q) s t text is = ap (λ (u : State). Some (showing text u)) (some_one is)
within_dark name d e m n down a b fits (Opened q) s t text is = ap (λ (u : State). Some (showing text u)) (some_one is)
within_dark name d e m n down zero b fits (Made p) s t text is = cc
within_dark name d e m n down zero b fits (Within p) s t text is = cc
within_dark name d e m n down (suc a) zero fits (Made p) s t text is = absurd (omega (arith, fits))
within_dark name d e m n down (suc a) zero fits (Within p) s t text is = absurd (omega (arith, fits))
within_dark name d e m n down (suc a) (suc b) fits (Made p) s t text is =
    parts_dark (read_within d name a (dark m)) (read_within e name b (dark n)) (within_dark name d e m n down a b (omega (arith, fits))) s t text (phrase_parts p s.opened s.rest) is
within_dark name d e m n down (suc a) (suc b) fits (Within p) s t text is =
    own_dark (read_within d name a) (read_within e name b) m n (within_dark name d e m n down a b (omega (arith, fits))) s t text (inner_parts p (dark m) s.rest) (inner_parts p (dark n) s.rest) (λ x parts. inner_dark m n s.rest x p parts) is

-- A level.

level_parts_dark : (name : List ℕ) (m n : ℕ) (bytes : List ℕ) (p : Part) → level_parts name p (dark m) bytes ≡ level_parts name p (dark n) bytes
level_parts_dark name m n bytes (Deep k) = refl
level_parts_dark name m n bytes (Back k) = refl
level_parts_dark name m n bytes (Made p) = refl
level_parts_dark name m n bytes (Within p) = refl
level_parts_dark name m n bytes (Read p) = refl
level_parts_dark name m n bytes (Goto q) = refl
level_parts_dark name m n bytes (Opened q) = refl

pub level_dark : (name : List ℕ) (a b m n : ℕ) → a ≤ b → (p : Part) (s t : State) (text : List ℕ) → read_level name a p (dark m) s ≡ Some t → read_level name b p (dark n) (showing text s) ≡ Some (showing text t)
unfolding read_level
level_dark name zero b m n fits p s t text is = cc
level_dark name (suc a) zero m n fits p s t text is = absurd (omega (arith, fits))
level_dark name (suc a) (suc b) m n fits p s t text is =
    ap (option_and_then (λ (x : List Part × List ℕ). all (read_within (read_level name b) name (most_width name) (dark n)) x.0 (record s { rest = x.1; text = text }))) (level_parts_dark name n m s.rest p)
    ∙ parts_dark (read_within (read_level name a) name (most_width name) (dark m)) (read_within (read_level name b) name (most_width name) (dark n))
    (within_dark name (read_level name a) (read_level name b) m n (λ q u v more reads. level_dark name a b m n (omega (arith, fits)) q u v more reads) (most_width name) (most_width name) (omega arith)) s t text (level_parts name p (dark m) s.rest) is

level_by : (name : List ℕ) (levels m n : ℕ) (p : Part) (s : State) (text : List ℕ) (o : Option State) → read_level name levels p (dark n) (showing text s) ≡ o → read_level name levels p (dark m) s ≡ None → o ≡ None
level_by name levels m n p s text None is none = refl
level_by name levels m n p s text (Some t) is none = absurd (let e : None ≡ Some (showing s.text t) = sym none ∙ level_dark name levels levels n m (omega arith) p (showing text s) t s.text is in cc)

pub level_none : (name : List ℕ) (levels m n : ℕ) (p : Part) (s : State) (text : List ℕ) → read_level name levels p (dark m) s ≡ None → read_level name levels p (dark n) (showing text s) ≡ None
level_none name levels m n p s text none = level_by name levels m n p s text (read_level name levels p (dark n) (showing text s)) refl none

-- A path that is not shown, as the only frame of a stack.

only_frame : (name : List ℕ) (o : Option State) → option_and_then (run name []) o ≡ o
unfolding run
only_frame name None = refl
only_frame name (Some s) = refl

path_frame : (name : List ℕ) (levels : ℕ) (s : State) → read_frame name (inside (dark 0) levels 0 (Deep kind.Path)) s ≡ read_level name levels (Deep kind.Path) (dark 0) s
unfolding read_frame
path_frame name levels s = refl

path_run : (name : List ℕ) (levels : ℕ) (frames : List Frame) (s : State) → frames ≡ inside (dark 0) levels 0 (Deep kind.Path) ∷ [] → run name (reverse frames) s ≡ read_level name levels (Deep kind.Path) (dark 0) s
path_run name levels frames s is =
    ap (λ fs. run name (reverse fs) s) is ∙ run_one name (inside (dark 0) levels 0 (Deep kind.Path)) [] s ∙ only_frame name (read_frame name (inside (dark 0) levels 0 (Deep kind.Path)) s) ∙ path_frame name levels s

path_by : (name : List ℕ) (levels bound : ℕ) (rest text : List ℕ) (opened : Bool) (o : Option State) → read_level name levels (Deep kind.Path) (dark 0) (at rest [] opened) ≡ o
    → read_level name levels (Deep kind.Path) (dark bound) (at rest text opened) ≡ option_map (showing text) o
path_by name levels bound rest text opened None is = level_none name levels 0 bound (Deep kind.Path) (at rest [] opened) text is
path_by name levels bound rest text opened (Some t) is = level_dark name levels levels 0 bound (omega arith) (Deep kind.Path) (at rest [] opened) t text is

-- Reading a path that was read from a stack.
pub path_read : (name : List ℕ) (levels bound : ℕ) (below frames : List Frame) (rest text shown : List ℕ) (opened : Bool) (o : Option State) → below ≡ [] → frames ≡ below ++ inside (dark 0) levels 0 (Deep kind.Path) ∷ [] → shown ≡ [] → run name (reverse frames) (at rest shown opened) ≡ o
    → read_level name levels (Deep kind.Path) (dark bound) (at rest text opened) ≡ option_map (showing text) o
path_read name levels bound below frames rest text shown opened o none is empty reads =
    path_by name levels bound rest text opened o (sym (path_run name levels frames (at rest [] opened) (is ∙ ap (λ fs. fs ++ inside (dark 0) levels 0 (Deep kind.Path) ∷ []) none)) ∙ ap (λ ts. run name (reverse frames) (at rest ts opened)) (sym empty) ∙ reads)

-- Reading a path that was passed by steps.
pub steps_read : (name : List ℕ) (levels : ℕ) (rest after : List ℕ) (opened : Bool) (end : Reached) → IsEnd name rest → Passes name (Deep kind.Path) (length name - length rest) opened end → end.levels ≤ levels → after ≡ drop end.place name → Reads name levels rest opened after end.opened
steps_read name levels rest after opened end ends passes fits is = λ bound text.
    ap (λ r. read_level name levels (Deep kind.Path) (dark bound) (at r text opened)) (placed name rest ends) ∙ passes levels end.width bound text fits (omega arith) ∙ ap (λ r. Some (at r text end.opened)) (sym is)

-- The path of an impl.

hidden_part : (p : Part) → is_hidden p ≡ true → p ≡ Within inner.ImplPath
hidden_part (Within inner.ImplPath) is = refl
hidden_part (Within inner.Instance) is = cc
hidden_part (Within inner.Function) is = cc
hidden_part (Within inner.Object) is = cc
hidden_part (Deep k) is = cc
hidden_part (Back k) is = cc
hidden_part (Made p) is = cc
hidden_part (Read p) is = cc
hidden_part (Goto q) is = cc
hidden_part (Opened b) is = cc

alone : (f : Part → State → Option State) (o : Option State) → option_and_then (all f []) o ≡ o
alone f None = refl
alone f (Some t) = refl

impl_in : (name : List ℕ) (levels width : ℕ) (scope : Scope) (s : State) (o : Option State) → width ≢ 0 → read_level name levels (Deep kind.Path) (dark scope.bound) s ≡ o → read_within (read_level name levels) name width scope (Within inner.ImplPath) s ≡ o
unfolding inner_parts
impl_in name levels zero scope s o some reads = absurd (some refl)
impl_in name levels (suc width) scope s o some reads = alone (read_within (read_level name levels) name width (dark scope.bound)) (read_level name levels (Deep kind.Path) (dark scope.bound) s) ∙ reads

pub impl_read : (name : List ℕ) (f : Frame) (s : State) (o : Option State) → is_hidden f.part ≡ true → f.width ≢ 0 → read_level name f.levels (Deep kind.Path) (dark f.scope.bound) s ≡ o → read_frame name f s ≡ o
unfolding read_frame
impl_read name f s o is some reads = ap (λ p. read_within (read_level name f.levels) name f.width f.scope p s) (hidden_part f.part is) ∙ impl_in name f.levels f.width f.scope s o some reads

no_width : (d : Part → Scope → State → Option State) (name : List ℕ) (scope : Scope) (p : Inner) (s : State) → read_within d name zero scope (Within p) s ≡ None
no_width d name scope p s = refl

pub impl_none : (name : List ℕ) (f : Frame) (s : State) → is_hidden f.part ≡ true → f.width ≡ 0 → read_frame name f s ≡ None
unfolding read_frame
impl_none name f s is none =
    ap (λ p. read_within (read_level name f.levels) name f.width f.scope p s) (hidden_part f.part is) ∙ ap (λ w. read_within (read_level name f.levels) name w f.scope (Within inner.ImplPath) s) none ∙ no_width (read_level name f.levels) name f.scope inner.ImplPath s
