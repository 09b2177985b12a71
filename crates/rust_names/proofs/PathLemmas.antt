-- Paths that are read at once: what nested paths put onto the stack, and what is read of a crate
-- and of the name of a nested path.
use Rattle.std.proofs.Common.{◌≡◌, ◌≢◌, ℕ, zero, suc, ◌+◌, ◌-◌, ◌<◌, ◌≤◌, cond, nat_le, Bool, true, false, List, [], ◌∷◌, ◌++◌, length, reverse, Option, Some, None, refl, sym, ◌∙◌, ap, arith, subst, append_assoc, ◌⊎◌, ⊎_elim}
use Rattle.std.specs.Borrow.{Bor}
use Rattle.std.specs.Option.{option_map, option_and_then}
use Rattle.std.proofs.lemmas.Bool.Decides.{nat_tests}
use Rattle.rust_names.specs.declared.words.Word.{Word}
use Rattle.rust_names.specs.declared.words.Word.TheVariants as word
use Rattle.rust_names.specs.declared.grammar.Kind.TheVariants as kind
use Rattle.rust_names.specs.declared.grammar.Leaf.{Leaf}
use Rattle.rust_names.specs.declared.grammar.Leaf.TheVariants as leaf
use Rattle.rust_names.specs.declared.grammar.Phrase.{Phrase}
use Rattle.rust_names.specs.declared.grammar.Phrase.TheVariants as phrase
use Rattle.rust_names.specs.declared.grammar.Part.{Part}
use Rattle.rust_names.specs.declared.grammar.Part.TheVariants.{Deep, Back, Phrase as Made, Inner as Within, Leaf as Read, Goto, Opened}
use Rattle.rust_names.specs.declared.grammar.Scope.{Scope}
use Rattle.rust_names.specs.declared.grammar.Frame.{Frame}
use Rattle.rust_names.specs.V0Numbers.{front, eat, after_letter}
use Rattle.rust_names.specs.V0Words.{basic_type}
use Rattle.rust_names.specs.V0Leaves.{read_leaf}
use Rattle.rust_names.specs.V0Grammar.{say, is_namespace, type_parts, any_type_parts, deep_parts, deep_by, path_parts, nested_parts, phrase_parts, named_parts, unless_empty}
use Rattle.rust_names.specs.V0Names.{State, all, read_within, read_level, most_width, after_leaf}
use Rattle.rust_names.specs.internal.Passing.{IsEnd, Turned}
use Rattle.rust_names.specs.internal.Running.{inside, in_scope, at, is_made, is_path, expand, Expanded, BeginsPathType, IsBackPath, IsTypePath, SameRun, back_of, crate_read, name_read, named_read, read_frame, run, weight}
use Rattle.rust_names.proofs.NumberLemmas.{front_is}
use Rattle.rust_names.proofs.EndLemmas.{here, back_end, crate_end}
use Rattle.rust_names.proofs.RunLemmas.{made_same, made_lighter, plain_turn}

pub path_made : (p : Part) → is_path p ≡ true → is_made p ≡ true
path_made (Deep k) is = refl
path_made (Back k) is = refl
path_made (Made p) is = cc
path_made (Within p) is = refl
path_made (Read p) is = cc
path_made (Goto q) is = cc
path_made (Opened b) is = cc

-- Nested paths.

pub begins : (b letter : ℕ) (after bytes : List ℕ) → Some (b, after) ≡ front bytes → b ≡ letter → bytes ≡ letter ∷ after
begins b letter after bytes is same = front_is b after bytes is ∙ ap (λ x. x ∷ after) same

pub begins_nested : (space : ℕ) (bytes nested after : List ℕ) → bytes ≡ 78 ∷ nested → Some (space, after) ≡ front nested → bytes ≡ 78 ∷ space ∷ after
begins_nested space bytes nested after first second = first ∙ ap (λ xs. 78 ∷ xs) (front_is space after nested second)

nested_at : (size : ℕ) (scope : Scope) (levels width : ℕ) (p : Part) (opened : Bool) (space : ℕ) (after : List ℕ) → is_path p ≡ true → is_namespace space ≡ true → expand size (inside scope (suc levels) width p) opened (78 ∷ space ∷ after) ≡ Some (inside scope levels (size + 8) p ∷ inside scope levels (size + 8) (Made (phrase.Named space)) ∷ [], after)
unfolding expand deep_parts deep_by path_parts nested_parts front
nested_at size scope levels width (Deep kind.Path) opened space after is named = ap (λ b. option_map (in_scope scope levels (size + 8)) (cond b (Some (Deep kind.Path ∷ Made (phrase.Named space) ∷ [], after)) None)) named
nested_at size scope levels width (Deep kind.ValuePath) opened space after is named = ap (λ b. option_map (in_scope scope levels (size + 8)) (cond b (Some (Deep kind.ValuePath ∷ Made (phrase.Named space) ∷ [], after)) None)) named
nested_at size scope levels width p opened space after is named = cc

nested_in : (size : ℕ) (scope : Scope) (levels width : ℕ) (p : Part) (opened : Bool) (space : ℕ) (after : List ℕ) → levels ≢ 0 → is_path p ≡ true → is_namespace space ≡ true → expand size (inside scope levels width p) opened (78 ∷ space ∷ after) ≡ Some (inside scope (levels - 1) (size + 8) p ∷ inside scope (levels - 1) (size + 8) (Made (phrase.Named space)) ∷ [], after)
nested_in size scope zero width p opened space after some is named = absurd (some refl)
nested_in size scope (suc levels) width p opened space after some is named =
    nested_at size scope levels width p opened space after is named ∙ ap (λ l. Some (inside scope l (size + 8) p ∷ inside scope l (size + 8) (Made (phrase.Named space)) ∷ [], after)) (let e : levels ≡ suc levels - 1 = omega arith in e)

entered : (size : ℕ) (f : Frame) (below pushed : List Frame) (opened : Bool) (space : ℕ) (bytes after : List ℕ) → f.levels ≢ 0 → is_path f.part ≡ true → is_namespace space ≡ true → bytes ≡ 78 ∷ space ∷ after → pushed ≡ below ++ inside f.scope (f.levels - 1) (size + 8) (Made (phrase.Named space)) ∷ []
    → Expanded below (pushed ++ inside f.scope (f.levels - 1) (size + 8) f.part ∷ []) (expand size f opened bytes) (Some after)
entered size f below pushed opened space bytes after some is named begins pushes =
    let named_frame = inside f.scope (f.levels - 1) (size + 8) (Made (phrase.Named space)) in
    let path_frame = inside f.scope (f.levels - 1) (size + 8) f.part in
    subst (λ o. Expanded below (pushed ++ path_frame ∷ []) o (Some after)) (sym (ap (expand size f opened) begins ∙ nested_in size f.scope f.levels f.width f.part opened space after some is named))
    (ap (λ fs. fs ++ path_frame ∷ []) pushes ∙ append_assoc below (named_frame ∷ []) (path_frame ∷ []), omega arith, refl)

pub entered_same : (name : List ℕ) (f : Frame) (first below pushed : List Frame) (space : ℕ) (start bytes after : List ℕ) → f.levels ≢ 0 → is_path f.part ≡ true → is_namespace space ≡ true → bytes ≡ 78 ∷ space ∷ after → pushed ≡ below ++ inside f.scope (f.levels - 1) (length name + 8) (Made (phrase.Named space)) ∷ []
    → SameRun name first start (below ++ f ∷ []) bytes → SameRun name first start (pushed ++ inside f.scope (f.levels - 1) (length name + 8) f.part ∷ []) after
entered_same name f first below pushed space start bytes after some is named begins pushes so_far = λ text opened.
    so_far text opened ∙ made_same name f below (pushed ++ inside f.scope (f.levels - 1) (length name + 8) f.part ∷ []) bytes text after opened (path_made f.part is)
    (entered (length name) f below pushed opened space bytes after some is named begins pushes)

pub entered_lighter : (size : ℕ) (f : Frame) (first below pushed : List Frame) (space : ℕ) (bytes after : List ℕ) → f.levels ≢ 0 → is_path f.part ≡ true → is_namespace space ≡ true → bytes ≡ 78 ∷ space ∷ after → pushed ≡ below ++ inside f.scope (f.levels - 1) (size + 8) (Made (phrase.Named space)) ∷ []
    → weight size (below ++ f ∷ []) ≤ weight size first → weight size (pushed ++ inside f.scope (f.levels - 1) (size + 8) f.part ∷ []) ≤ weight size first
entered_lighter size f first below pushed space bytes after some is named begins pushes so_far =
    omega (
      arith,
      so_far,
      made_lighter size f below (pushed ++ inside f.scope (f.levels - 1) (size + 8) f.part ∷ []) false bytes after (path_made f.part is)
          (entered size f below pushed false space bytes after some is named begins pushes),
    )

-- A type that is a path.

any_in : (size : ℕ) (scope : Scope) (levels width : ℕ) (opened : Bool) (b : ℕ) (after : List ℕ) → basic_type b ≡ None → expand size (inside scope levels (suc width) (Made phrase.AnyType)) opened (b ∷ after) ≡ Some (inside scope levels width (Deep kind.Type) ∷ [], b ∷ after)
unfolding expand phrase_parts any_type_parts front
any_in size scope levels width opened b after none =
    ap (λ (o : Option Word). option_map (in_scope scope levels width) (Some (elim o [ None ↦ (Deep kind.Type ∷ [], b ∷ after) | Some w ↦ (say w ∷ [], after) ]))) none

type_in : (size : ℕ) (scope : Scope) (levels width : ℕ) (opened : Bool) (b : ℕ) (after : List ℕ) → type_parts (b ∷ after) b after ≡ Some (Deep kind.Path ∷ [], b ∷ after) → expand size (inside scope (suc levels) width (Deep kind.Type)) opened (b ∷ after) ≡ Some (inside scope levels (size + 8) (Deep kind.Path) ∷ [], b ∷ after)
unfolding expand deep_parts deep_by front
type_in size scope levels width opened b after is = ap (option_map (in_scope scope levels (size + 8))) is

one_frame : (below : List Frame) (f : Frame) (bytes : List ℕ) (o : Option (List Frame × List ℕ)) → o ≡ Some (f ∷ [], bytes) → Expanded below (below ++ f ∷ []) o (Some bytes)
one_frame below f bytes o is = subst (λ r. Expanded below (below ++ f ∷ []) r (Some bytes)) (sym is) (refl, omega arith, refl)

any_frame : (size : ℕ) (below : List Frame) (scope : Scope) (levels width : ℕ) (opened : Bool) (bytes : List ℕ) → width ≢ 0 → BeginsPathType (front bytes) → Expanded below (below ++ inside scope levels (width - 1) (Deep kind.Type) ∷ []) (expand size (inside scope levels width (Made phrase.AnyType)) opened bytes) (Some bytes)
unfolding front
any_frame size below scope levels zero opened bytes some begins = absurd (some refl)
any_frame size below scope levels (suc width) opened [] some begins = absurd begins
any_frame size below scope levels (suc width) opened (b ∷ after) some begins =
    one_frame below (inside scope levels (suc width - 1) (Deep kind.Type)) (b ∷ after) (expand size (inside scope levels (suc width) (Made phrase.AnyType)) opened (b ∷ after))
    (any_in size scope levels width opened b after begins.0 ∙ ap (λ w. Some (inside scope levels w (Deep kind.Type) ∷ [], b ∷ after)) (let e : width ≡ suc width - 1 = omega arith in e))

type_frame : (size : ℕ) (below : List Frame) (scope : Scope) (levels width : ℕ) (opened : Bool) (bytes : List ℕ) → levels ≢ 0 → BeginsPathType (front bytes) → Expanded below (below ++ inside scope (levels - 1) (size + 8) (Deep kind.Path) ∷ []) (expand size (inside scope levels width (Deep kind.Type)) opened bytes) (Some bytes)
unfolding front
type_frame size below scope zero width opened bytes some begins = absurd (some refl)
type_frame size below scope (suc levels) width opened [] some begins = absurd begins
type_frame size below scope (suc levels) width opened (b ∷ after) some begins =
    one_frame below (inside scope (suc levels - 1) (size + 8) (Deep kind.Path)) (b ∷ after) (expand size (inside scope (suc levels) width (Deep kind.Type)) opened (b ∷ after))
    (type_in size scope levels width opened b after (begins.1 (b ∷ after) after) ∙ ap (λ l. Some (inside scope l (size + 8) (Deep kind.Path) ∷ [], b ∷ after)) (let e : levels ≡ suc levels - 1 = omega arith in e))

any_expanded : (size : ℕ) (f path : Frame) (below : List Frame) (opened : Bool) (bytes : List ℕ) → IsTypePath size f path bytes → Expanded below (below ++ inside f.scope f.levels (f.width - 1) (Deep kind.Type) ∷ []) (expand size f opened bytes) (Some bytes)
any_expanded size f path below opened bytes is =
    subst (λ p. Expanded below (below ++ inside f.scope f.levels (f.width - 1) (Deep kind.Type) ∷ []) (expand size (inside f.scope f.levels f.width p) opened bytes) (Some bytes)) (sym is.0) (any_frame size below f.scope f.levels f.width opened bytes is.2 is.4)

type_expanded : (size : ℕ) (f path : Frame) (below : List Frame) (opened : Bool) (bytes : List ℕ) → IsTypePath size f path bytes → Expanded below (below ++ path ∷ []) (expand size (inside f.scope f.levels (f.width - 1) (Deep kind.Type)) opened bytes) (Some bytes)
type_expanded size f path below opened bytes is =
    subst (λ g. Expanded below (below ++ g ∷ []) (expand size (inside f.scope f.levels (f.width - 1) (Deep kind.Type)) opened bytes) (Some bytes)) (sym is.3) (type_frame size below f.scope f.levels (f.width - 1) opened bytes is.1 is.4)

type_same : (name : List ℕ) (f path : Frame) (below : List Frame) (bytes text : List ℕ) (opened : Bool) → IsTypePath (length name) f path bytes → run name (reverse (below ++ f ∷ [])) (at bytes text opened) ≡ run name (reverse (below ++ path ∷ [])) (at bytes text opened)
type_same name f path below bytes text opened is =
    let type = inside f.scope f.levels (f.width - 1) (Deep kind.Type) in
    made_same name f below (below ++ type ∷ []) bytes text bytes opened (ap is_made is.0) (any_expanded (length name) f path below opened bytes is)
    ∙ made_same name type below (below ++ path ∷ []) bytes text bytes opened refl (type_expanded (length name) f path below opened bytes is)

type_lighter : (size : ℕ) (f path : Frame) (below : List Frame) (bytes : List ℕ) → IsTypePath size f path bytes → weight size (below ++ path ∷ []) < weight size (below ++ f ∷ [])
type_lighter size f path below bytes is =
    let type = inside f.scope f.levels (f.width - 1) (Deep kind.Type) in
    omega (
      arith,
      made_lighter size f below (below ++ type ∷ []) false bytes bytes (ap is_made is.0) (any_expanded size f path below false bytes is),
      made_lighter size type below (below ++ path ∷ []) false bytes bytes refl (type_expanded size f path below false bytes is),
    )

-- A frame that was made that of a path, or that was not changed.
pub record Entered (name : List ℕ) (f path : Frame) (below : List Frame) (bytes : List ℕ) : Type 0 where
  pub same : SameRun name (below ++ f ∷ []) bytes (below ++ path ∷ []) bytes
  pub lighter : weight (length name) (below ++ path ∷ []) ≤ weight (length name) (below ++ f ∷ [])
  pub made : is_made path.part ≡ true

left_so : (name : List ℕ) (f path : Frame) (below : List Frame) (bytes : List ℕ) → is_made f.part ≡ true → path ≡ f → Entered name f path below bytes
left_so name f path below bytes made is = subst (λ p. Entered name f p below bytes) (sym is) (record { same = λ text opened. refl; lighter = omega arith; made = made })

type_so : (name : List ℕ) (f path : Frame) (below : List Frame) (bytes : List ℕ) → IsTypePath (length name) f path bytes → Entered name f path below bytes
type_so name f path below bytes is = record {
  same = λ text opened. type_same name f path below bytes text opened is;
  lighter = omega (arith, type_lighter (length name) f path below bytes is);
  made = ap (λ (g : Frame). is_made g.part) is.3;
}

pub type_entered : (name : List ℕ) (f path : Frame) (below : List Frame) (bytes : List ℕ) → is_made f.part ≡ true → (path ≡ f) ⊎ IsTypePath (length name) f path bytes → Entered name f path below bytes
type_entered name f path below bytes made is = ⊎_elim (left_so name f path below bytes made) (type_so name f path below bytes) is

-- A path that is a backreference.

back_at : (size : ℕ) (scope : Scope) (levels width : ℕ) (p : Part) (opened : Bool) (after : List ℕ) → is_path p ≡ true → expand size (inside scope (suc levels) width p) opened (66 ∷ after) ≡ Some (inside scope levels (size + 8) (back_of p) ∷ [], after)
unfolding expand deep_parts deep_by path_parts front
back_at size scope levels width (Deep kind.Path) opened after is = refl
back_at size scope levels width (Deep kind.ValuePath) opened after is = refl
back_at size scope levels width p opened after is = cc

back_in : (size : ℕ) (scope : Scope) (levels width : ℕ) (p : Part) (opened : Bool) (after : List ℕ) → levels ≢ 0 → is_path p ≡ true → expand size (inside scope levels width p) opened (66 ∷ after) ≡ Some (inside scope (levels - 1) (size + 8) (back_of p) ∷ [], after)
back_in size scope zero width p opened after some is = absurd (some refl)
back_in size scope (suc levels) width p opened after some is =
    back_at size scope levels width p opened after is ∙ ap (λ l. Some (inside scope l (size + 8) (back_of p) ∷ [], after)) (let e : levels ≡ suc levels - 1 = omega arith in e)

back_expanded : (size : ℕ) (f back : Frame) (below : List Frame) (opened : Bool) (bytes after : List ℕ) → IsBackPath size f back bytes after → Expanded below (below ++ back ∷ []) (expand size f opened bytes) (Some after)
back_expanded size f back below opened bytes after is =
    subst (λ g. Expanded below (below ++ g ∷ []) (expand size f opened bytes) (Some after)) (sym is.2)
    (one_frame below (inside f.scope (f.levels - 1) (size + 8) (back_of f.part)) after (expand size f opened bytes) (ap (expand size f opened) is.3 ∙ back_in size f.scope f.levels f.width f.part opened after is.0 is.1))

back_made : (p : Part) → is_path p ≡ true → is_made (back_of p) ≡ true
back_made (Deep k) is = refl
back_made (Back k) is = cc
back_made (Made p) is = cc
back_made (Within p) is = cc
back_made (Read p) is = cc
back_made (Goto q) is = cc
back_made (Opened b) is = cc

-- A frame that was made that of a backreference, or that was not changed.
pub record Backed (name : List ℕ) (f back : Frame) (below : List Frame) (bytes after : List ℕ) : Type 0 where
  pub same : SameRun name (below ++ f ∷ []) bytes (below ++ back ∷ []) after
  pub lighter : weight (length name) (below ++ back ∷ []) ≤ weight (length name) (below ++ f ∷ [])
  pub made : is_made back.part ≡ true
  pub ends : IsEnd bytes after

not_back : (name : List ℕ) (f back : Frame) (below : List Frame) (bytes after : List ℕ) → is_made f.part ≡ true → (back ≡ f) × (after ≡ bytes) → Backed name f back below bytes after
not_back name f back below bytes after made is =
    subst (λ p. Backed name f p below bytes after) (sym is.0)
    (subst (λ r. Backed name f f below bytes r) (sym is.1) (record { same = λ text opened. refl; lighter = omega arith; made = made; ends = here bytes }))

back_so : (name : List ℕ) (f back : Frame) (below : List Frame) (bytes after : List ℕ) → IsBackPath (length name) f back bytes after → Backed name f back below bytes after
back_so name f back below bytes after is = record {
  same = λ text opened. made_same name f below (below ++ back ∷ []) bytes text after opened (path_made f.part is.1) (back_expanded (length name) f back below opened bytes after is);
  lighter = omega (arith, made_lighter (length name) f below (below ++ back ∷ []) false bytes after (path_made f.part is.1) (back_expanded (length name) f back below false bytes after is));
  made = ap (λ (g : Frame). is_made g.part) is.2 ∙ back_made f.part is.1;
  ends = back_end bytes after is.3;
}

pub backed : (name : List ℕ) (f back : Frame) (below : List Frame) (bytes after : List ℕ) → is_made f.part ≡ true → ((back ≡ f) × (after ≡ bytes)) ⊎ IsBackPath (length name) f back bytes after → Backed name f back below bytes after
backed name f back below bytes after made is = ⊎_elim (not_back name f back below bytes after made) (back_so name f back below bytes after) is

-- Leaves that are read one after the other.

one_by : (down : Part → Scope → State → Option State) (name : List ℕ) (width : ℕ) (scope : Scope) (rest text : List ℕ) (opened : Bool) (o : Option (List ℕ × List ℕ)) → option_and_then (all (read_within down name width scope) []) (option_map (after_leaf (at rest text opened)) o) ≡ option_map (λ (x : List ℕ × List ℕ). at x.0 x.1 opened) o
one_by down name width scope rest text opened None = refl
one_by down name width scope rest text opened (Some x) = refl

one_leaf : (down : Part → Scope → State → Option State) (name : List ℕ) (width : ℕ) (scope : Scope) (a : Leaf) (rest text : List ℕ) (opened : Bool) → all (read_within down name width scope) (Read a ∷ []) (at rest text opened) ≡ option_map (λ (x : List ℕ × List ℕ). at x.0 x.1 opened) (read_leaf a scope rest text)
one_leaf down name width scope a rest text opened = one_by down name width scope rest text opened (read_leaf a scope rest text)

two_by : (down : Part → Scope → State → Option State) (name : List ℕ) (width : ℕ) (scope : Scope) (b : Leaf) (rest text : List ℕ) (opened : Bool) (o : Option (List ℕ × List ℕ)) → option_and_then (all (read_within down name width scope) (Read b ∷ [])) (option_map (after_leaf (at rest text opened)) o) ≡ option_map (λ (x : List ℕ × List ℕ). at x.0 x.1 opened) (option_and_then (λ (x : List ℕ × List ℕ). read_leaf b scope x.0 x.1) o)
two_by down name width scope b rest text opened None = refl
two_by down name width scope b rest text opened (Some x) = one_leaf down name width scope b x.0 x.1 opened

two_leaves : (down : Part → Scope → State → Option State) (name : List ℕ) (width : ℕ) (scope : Scope) (a b : Leaf) (rest text : List ℕ) (opened : Bool) → all (read_within down name width scope) (Read a ∷ Read b ∷ []) (at rest text opened) ≡ option_map (λ (x : List ℕ × List ℕ). at x.0 x.1 opened) (option_and_then (λ (x : List ℕ × List ℕ). read_leaf b scope x.0 x.1) (read_leaf a scope rest text))
two_leaves down name width scope a b rest text opened = two_by down name width scope b rest text opened (read_leaf a scope rest text)

mapped_twice : (text : List ℕ) (opened : Bool) (o : Option (Bor (List ℕ))) → option_map (λ (x : List ℕ × List ℕ). at x.0 x.1 opened) (option_map (λ (a : Bor (List ℕ)). (a.now, text)) o) ≡ option_map (λ (a : Bor (List ℕ)). at a.now text opened) o
mapped_twice text opened None = refl
mapped_twice text opened (Some a) = refl

-- A crate.

crate_at : (name : List ℕ) (scope : Scope) (levels width : ℕ) (p : Part) (after text : List ℕ) (opened : Bool) → is_path p ≡ true → read_frame name (inside scope (suc levels) width p) (at (67 ∷ after) text opened) ≡ option_map (λ (x : List ℕ × List ℕ). at x.0 x.1 opened) (crate_read scope after text)
unfolding read_frame read_level deep_parts deep_by path_parts front
crate_at name scope levels width (Deep kind.Path) after text opened is = two_leaves (read_level name levels) name (most_width name) scope leaf.Disambiguator leaf.Identifier after text opened
crate_at name scope levels width (Deep kind.ValuePath) after text opened is = two_leaves (read_level name levels) name (most_width name) scope leaf.Disambiguator leaf.Identifier after text opened
crate_at name scope levels width p after text opened is = cc

crate_in : (name : List ℕ) (scope : Scope) (levels width : ℕ) (p : Part) (after text : List ℕ) (opened : Bool) → levels ≢ 0 → is_path p ≡ true → read_frame name (inside scope levels width p) (at (67 ∷ after) text opened) ≡ option_map (λ (x : List ℕ × List ℕ). at x.0 x.1 opened) (crate_read scope after text)
crate_in name scope zero width p after text opened some is = absurd (some refl)
crate_in name scope (suc levels) width p after text opened some is = crate_at name scope levels width p after text opened is

crate_frame : (name : List ℕ) (f : Frame) (rest after text more : List ℕ) (opened : Bool) (o : Option (Bor (List ℕ))) → f.levels ≢ 0 → is_path f.part ≡ true → rest ≡ 67 ∷ after → crate_read f.scope after text ≡ option_map (λ (a : Bor (List ℕ)). (a.now, more)) o → read_frame name f (at rest text opened) ≡ option_map (λ (a : Bor (List ℕ)). at a.now more opened) o
crate_frame name f rest after text more opened o some is begins reads =
    ap (λ r. read_frame name f (at r text opened)) begins ∙ crate_in name f.scope f.levels f.width f.part after text opened some is
    ∙ ap (option_map (λ (x : List ℕ × List ℕ). at x.0 x.1 opened)) reads ∙ mapped_twice more opened o

pub crate_turn : (name : List ℕ) (f : Frame) (below : List Frame) (rest after text more : List ℕ) (opened : Bool) (o : Option (Bor (List ℕ))) → f.levels ≢ 0 → is_path f.part ≡ true → IsEnd name rest → rest ≡ 67 ∷ after → crate_read f.scope after text ≡ option_map (λ (a : Bor (List ℕ)). (a.now, more)) o
    → Turned name (below ++ f ∷ []) (at rest text opened) below more opened o
crate_turn name f below rest after text more opened o some is ends begins reads =
    plain_turn name f below (at rest text opened) more opened o (crate_frame name f rest after text more opened o some is begins reads) (crate_end f.scope name rest after text more o ends begins reads)

-- The name of a nested path in a namespace in lower case.

name_at : (down : Part → Scope → State → Option State) (name : List ℕ) (width : ℕ) (scope : Scope) (rest text : List ℕ) (opened : Bool) (o : Option (List ℕ)) → all (read_within down name width scope) (unless_empty (say word.Scope) o ++ Read leaf.Identifier ∷ []) (at rest text opened) ≡ option_map (λ (x : List ℕ × List ℕ). at x.0 x.1 opened) (name_read scope o rest text)
name_at down name width scope rest text opened None = two_leaves down name width scope (leaf.Say word.Scope) leaf.Identifier rest text opened
name_at down name width scope rest text opened (Some after) = one_leaf down name width scope leaf.Identifier rest text opened

chosen : {A : Type 0} (b : Bool) (x y : A) → b ≡ true → cond b x y ≡ x
chosen true x y is = refl
chosen false x y is = cc

named_low : (space : ℕ) (x : ℕ × List ℕ) → nat_le 97 space ≡ true → named_parts space x ≡ (unless_empty (say word.Scope) (eat 48 x.1) ++ Read leaf.Identifier ∷ [], x.1)
unfolding named_parts
named_low space x low = chosen (nat_le 97 space) _ _ low

named_by : (down : Part → Scope → State → Option State) (name : List ℕ) (width : ℕ) (scope : Scope) (space : ℕ) (text : List ℕ) (opened : Bool) (o : Option (ℕ × List ℕ)) → nat_le 97 space ≡ true
    → option_and_then (λ (x : List Part × List ℕ). all (read_within down name width scope) x.0 (at x.1 text opened)) (option_map (named_parts space) o) ≡ option_map (λ (x : List ℕ × List ℕ). at x.0 x.1 opened) (option_and_then (λ (x : ℕ × List ℕ). name_read scope (eat 48 x.1) x.1 text) o)
named_by down name width scope space text opened None low = refl
named_by down name width scope space text opened (Some x) low =
    ap (λ (found : List Part × List ℕ). all (read_within down name width scope) found.0 (at found.1 text opened)) (named_low space x low) ∙ name_at down name width scope x.1 text opened (eat 48 x.1)

named_at : (down : Part → Scope → State → Option State) (name : List ℕ) (width : ℕ) (scope : Scope) (p : Phrase) (rest text : List ℕ) (opened : Bool) → is_made (Made p) ≡ false → width ≢ 0 → read_within down name width scope (Made p) (at rest text opened) ≡ option_map (λ (x : List ℕ × List ℕ). at x.0 x.1 opened) (named_read scope rest text)
unfolding phrase_parts
named_at down name zero scope p rest text opened plain some = absurd (some refl)
named_at down name (suc width) scope (phrase.Named space) rest text opened plain some =
    named_by down name width scope space text opened (after_letter 115 rest) (let t : nat_le 97 space ≡ true = grind (arith, nat_tests, plain) in t)
named_at down name (suc width) scope p rest text opened plain some = cc

pub named_frame : (name : List ℕ) (f : Frame) (p : Phrase) (rest text : List ℕ) (opened : Bool) (found : Option (List ℕ × List ℕ)) → f.part ≡ Made p → is_made f.part ≡ false → f.width ≢ 0 → named_read f.scope rest text ≡ found → read_frame name f (at rest text opened) ≡ option_map (λ (x : List ℕ × List ℕ). at x.0 x.1 opened) found
unfolding read_frame
named_frame name f p rest text opened found is plain some reads =
    ap (λ q. read_within (read_level name f.levels) name f.width f.scope q (at rest text opened)) is
    ∙ named_at (read_level name f.levels) name f.width f.scope p rest text opened (ap is_made (sym is) ∙ plain) some ∙ ap (option_map (λ (x : List ℕ × List ℕ). at x.0 x.1 opened)) reads

no_room : (down : Part → Scope → State → Option State) (name : List ℕ) (scope : Scope) (p : Phrase) (s : State) → read_within down name zero scope (Made p) s ≡ None
no_room down name scope p s = refl

pub no_named : (name : List ℕ) (f : Frame) (p : Phrase) (s : State) → f.part ≡ Made p → f.width ≡ 0 → read_frame name f s ≡ None
unfolding read_frame
no_named name f p s is none =
    ap (λ q. read_within (read_level name f.levels) name f.width f.scope q s) is ∙ ap (λ w. read_within (read_level name f.levels) name w f.scope (Made p) s) none ∙ no_room (read_level name f.levels) name f.scope p s
