-- Reading parts that are not shown by steps, for `do_step`.
use Rattle.std.proofs.Common.{◌≡◌, ℕ, zero, suc, ◌+◌, ◌-◌, ◌<◌, ◌≤◌, Bool, true, false, List, [], ◌∷◌, ◌++◌, length, map, drop, reverse, Option, Some, None, IfSome, refl, sym, ◌∙◌, ap, arith, subst, ⊎_elim, append_assoc}
use Rattle.std.specs.BTreeMap.{BTreeMap, Updates, get, is_at}
use Rattle.std.specs.Ordering.{nat_cmp}
use Rattle.std.specs.Option.{option_map, option_and_then}
use Rattle.std.proofs.lemmas.Bool.{cases_eq}
use Rattle.std.proofs.lemmas.List.{append-nil, map-append, reverse-append, reverse-reverse}
use Rattle.std.proofs.lemmas.Grind.{common_steps}
use Rattle.rust_names.specs.declared.grammar.Part.{Part}
use Rattle.rust_names.specs.declared.grammar.Part.TheVariants.{Deep, Back, Phrase as Made, Inner as Within, Leaf as Leafed, Goto, Opened}
use Rattle.rust_names.specs.declared.grammar.Scope.{Scope}
use Rattle.rust_names.specs.declared.grammar.Frame.{Frame}
use Rattle.rust_names.specs.declared.passing.Begun.{Begun}
use Rattle.rust_names.specs.declared.passing.Reached.{Reached}
use Rattle.rust_names.specs.declared.passing.Step.{Step}
use Rattle.rust_names.specs.declared.passing.Step.TheVariants.{Read, End}
use Rattle.rust_names.specs.V0Grammar.{deep_parts, back_parts, phrase_parts, inner_parts}
use Rattle.rust_names.specs.V0Names.{State, all, read_within, read_level}
use Rattle.rust_names.specs.internal.Passing.{IsEnd, dark}
use Rattle.rust_names.specs.internal.Running.{Expanded, at, expand, in_scope, in_own_scope, inside, is_made, read_frame}
use Rattle.rust_names.proofs.EndLemmas.{placed}
use Rattle.rust_names.proofs.PassingLemmas.{inner_dark, level_dark, within_dark}
use Rattle.rust_names.specs.internal.Stepping.{AreHidden, Begins, Fits, IsJoined, Passes, Waits, coded, inner_levels, inner_width, key, one_reads, read_of, reads, stands}

-- What is known of parts.

one_place : (p q c d : ℕ) (a b : Bool) → c < 16 → d < 16 → key p c a ≡ key q d b → p ≡ q
one_place p q c d true true first second is = omega (arith, is, first, second)
one_place p q c d true false first second is = omega (arith, is, first, second)
one_place p q c d false true first second is = omega (arith, is, first, second)
one_place p q c d false false first second is = omega (arith, is, first, second)

one_code : (p q c d : ℕ) (a b : Bool) → c < 16 → d < 16 → key p c a ≡ key q d b → c ≡ d
one_code p q c d true true first second is = omega (arith, is, first, second)
one_code p q c d true false first second is = omega (arith, is, first, second)
one_code p q c d false true first second is = omega (arith, is, first, second)
one_code p q c d false false first second is = omega (arith, is, first, second)

one_opened : (p q c d : ℕ) (a b : Bool) → c < 16 → d < 16 → key p c a ≡ key q d b → a ≡ b
one_opened p q c d true true first second is = refl
one_opened p q c d true false first second is = absurd (omega (arith, is, first, second))
one_opened p q c d false true first second is = absurd (omega (arith, is, first, second))
one_opened p q c d false false first second is = refl

other_key : (k q : ℕ) → (k ≡ q → ⊥) → is_at (nat_cmp k) q ≡ false
other_key k q apart = grind (arith, common_steps)

same_passes : (name : List ℕ) (p q c d : ℕ) (a b : Bool) (r : Reached) → p ≡ q → c ≡ d → a ≡ b → Passes name (coded c) p a r → Passes name (coded d) q b r
same_passes name p q c d a b r place code opened is = subst (λ n. Passes name (coded d) n b r) place (subst (λ n. Passes name (coded n) p b r) code (subst (λ n. Passes name (coded c) p n r) opened is))

pub kept_part : (name : List ℕ) (old new : BTreeMap ℕ Reached) (n place code : ℕ) (opened : Bool) (part : Part) (r : Reached) → n ≡ key place code opened → code < 16 → coded code ≡ part → AreHidden name old → Updates nat_cmp old new n (Some r) → Passes name part place opened r → AreHidden name new
kept_part name old new n place code opened part r is small codes are updates passes = λ q d b within.
    let known : Passes name (coded code) place opened r = subst (λ p. Passes name p place opened r) (sym codes) passes in
    ⊎_elim (λ same.
    let keys : key place code opened ≡ key q d b = sym is ∙ same in
    subst (λ o. IfSome o (Passes name (coded d) q b)) (sym (ap (get nat_cmp new) (sym same) ∙ updates.1))
    (same_passes name place q code d opened b r (one_place place q code d opened b small within keys) (one_code place q code d opened b small within keys) (one_opened place q code d opened b small within keys) known))
    (λ apart. subst (λ o. IfSome o (Passes name (coded d) q b)) (sym (updates.2 (key q d b) (other_key n (key q d b) apart))) (are q d b within)) (cases_eq n (key q d b))

-- A part that is passed.

same_stand : (name : List ℕ) (now end r : Reached) (text : List ℕ) → IsJoined now end r → stands name end.place end.opened text ≡ stands name r.place r.opened text
same_stand name now end r text is = ap (λ p. stands name p end.opened text) (sym is.place) ∙ ap (λ b. stands name r.place b text) (sym is.opened)

passed : (name : List ℕ) (part : Part) (parts : List Part) (now end r : Reached) (levels width bound : ℕ) (text : List ℕ) → Passes name part now.place now.opened end → IsJoined now end r → r.levels ≤ levels → r.width ≤ width
    → reads name levels width bound (part ∷ parts) (stands name now.place now.opened text) ≡ reads name levels width bound parts (stands name r.place r.opened text)
passed name part parts now end r levels width bound text passes is deep wide =
    ap (option_and_then (reads name levels width bound parts)) (passes levels width bound text (omega (arith, is.own_levels, deep)) (omega (arith, is.own_width, wide)))
    ∙ ap (reads name levels width bound parts) (same_stand name now end r text is)

begins_passed : (name : List ℕ) (b : Begun) (part : Part) (parts : List Part) (now end r : Reached) → Passes name part now.place now.opened end → IsJoined now end r → Begins name b (part ∷ parts) now → Begins name b parts r
begins_passed name b part parts now end r passes is begins = λ levels width bound text fits deep wide.
    begins levels width bound text fits (omega (arith, is.levels, deep)) (omega (arith, is.width, wide))
    ∙ passed name part parts now end r (inner_levels b.part levels) (inner_width name b.part width) bound text passes is deep wide

pub moved : (name : List ℕ) (first : Begun) (steps : List Step) (part : Part) (parts : List Part) (now end r : Reached) → Passes name part now.place now.opened end → IsJoined now end r → Waits name first steps (part ∷ parts) now → Waits name first steps parts r
moved name first [] part parts now end r passes is waits = λ levels width bound text deep wide.
    waits levels width bound text (omega (arith, is.levels, deep)) (omega (arith, is.width, wide)) ∙ passed name part parts now end r levels width bound text passes is deep wide
moved name first (Read p ∷ steps) part parts now end r passes is waits = moved name first steps part (parts ++ p ∷ []) now end r passes is waits
moved name first (End b ∷ steps) part parts now end r passes is waits = (begins_passed name b part parts now end r passes is waits.0, waits.1)

-- A part that is not made of others.

pub alone_passes : (name : List ℕ) (part : Part) (place : ℕ) (opened leaves : Bool) (rest after text shown : List ℕ) → rest ≡ drop place name → IsEnd name after → read_frame name (inside (dark 0) 0 1 part) (at rest text opened) ≡ Some (at after shown leaves)
    → Passes name part place opened (record { place = length name - length after; opened = leaves; levels = 0; width = 1 })
unfolding read_frame
alone_passes name part place opened leaves rest after text shown is ends found = λ levels width bound more deep wide.
    ap (λ r. one_reads name levels width bound part (at r more opened)) (sym is)
    ∙ within_dark name (read_level name 0) (read_level name levels) 0 bound (λ p s t other goes. level_dark name 0 levels 0 bound (omega arith) p s t other goes) 1 width wide part (at rest text opened) (at after shown leaves) more found
    ∙ ap (λ r. Some (at r more leaves)) (placed name after ends)

-- A part that is made of others.

some_one : {A : Type 0} {x y : A} → Some x ≡ Some y → x ≡ y
some_one is = cc

abbrev parts_of : List Frame → List Part
parts_of fs = map (λ (f : Frame). f.part) fs

map_back : (scope : Scope) (levels width : ℕ) (ps : List Part) → ps ≡ parts_of (map (inside scope levels width) ps)
map_back scope levels width [] = refl
map_back scope levels width (p ∷ ps) = ap (λ qs. p ∷ qs) (map_back scope levels width ps)

found_parts : (scope : Scope) (levels width : ℕ) (o : Option (List Part × List ℕ)) (x : List Frame × List ℕ) → option_map (in_scope scope levels width) o ≡ Some x → o ≡ Some (parts_of x.0, x.1)
found_parts scope levels width None x is = cc
found_parts scope levels width (Some y) x is = ap (λ ps. Some (ps, y.1)) (map_back scope levels width y.0) ∙ ap (λ (z : List Frame × List ℕ). Some (parts_of z.0, z.1)) (some_one is)

found_own : (levels width bound : ℕ) (o p : Option (List Part × Scope × List ℕ)) (x : List Frame × List ℕ) → ((y : List Part × Scope × List ℕ) → o ≡ Some y → p ≡ Some (y.0, dark bound, y.2)) → option_map (in_own_scope levels width) o ≡ Some x → p ≡ Some (parts_of x.0, dark bound, x.1)
found_own levels width bound None p x each is = cc
found_own levels width bound (Some y) p x each is = each y refl ∙ ap (λ ps. Some (ps, dark bound, y.2)) (map_back y.1 levels width y.0) ∙ ap (λ (z : List Frame × List ℕ). Some (parts_of z.0, dark bound, z.1)) (some_one is)

abbrev all_of : (Part → State → Option State) → State → Option (List Part × List ℕ) → Option State
all_of f s o = option_and_then (λ (x : List Part × List ℕ). all f x.0 (record s { rest = x.1 })) o

abbrev own_of : (Scope → Part → State → Option State) → State → Option (List Part × Scope × List ℕ) → Option State
own_of f s o = option_and_then (λ (x : List Part × Scope × List ℕ). all (f x.1) x.0 (record s { rest = x.2 })) o

less_one : (n : ℕ) → n ≡ suc n - 1
less_one n = omega arith

begun_reads : (name : List ℕ) (part : Part) (rest text : List ℕ) (opened : Bool) (x : List Frame × List ℕ) (levels width bound : ℕ) → is_made part ≡ true → expand (length name) (inside (dark 0) 1 1 part) opened rest ≡ Some x → Fits part levels width
    → one_reads name levels width bound part (at rest text opened) ≡ reads name (inner_levels part levels) (inner_width name part width) bound (parts_of x.0) (at x.1 text opened)
unfolding expand read_level
begun_reads name (Deep k) rest text opened x zero width bound made is fits = absurd (omega (arith, fits))
begun_reads name (Deep k) rest text opened x (suc levels) width bound made is fits =
    ap (all_of (read_within (read_level name levels) name (length name + 8) (dark bound)) (at rest text opened)) (found_parts (dark 0) 0 (length name + 8) (deep_parts k rest) x is)
    ∙ ap (λ n. reads name n (length name + 8) bound (parts_of x.0) (at x.1 text opened)) (less_one levels)
begun_reads name (Back k) rest text opened x zero width bound made is fits = absurd (omega (arith, fits))
begun_reads name (Back k) rest text opened x (suc levels) width bound made is fits =
    ap (all_of (read_within (read_level name levels) name (length name + 8) (dark bound)) (at rest text opened)) (found_parts (dark 0) 0 (length name + 8) (back_parts (length name) k false rest) x is)
    ∙ ap (λ n. reads name n (length name + 8) bound (parts_of x.0) (at x.1 text opened)) (less_one levels)
begun_reads name (Made p) rest text opened x levels zero bound made is fits = absurd (omega (arith, fits))
begun_reads name (Made p) rest text opened x levels (suc width) bound made is fits =
    ap (all_of (read_within (read_level name levels) name width (dark bound)) (at rest text opened)) (found_parts (dark 0) 1 0 (phrase_parts p opened rest) x is)
    ∙ ap (λ n. reads name levels n bound (parts_of x.0) (at x.1 text opened)) (less_one width)
begun_reads name (Within p) rest text opened x levels zero bound made is fits = absurd (omega (arith, fits))
begun_reads name (Within p) rest text opened x levels (suc width) bound made is fits =
    ap (own_of (read_within (read_level name levels) name width) (at rest text opened))
    (found_own 1 0 bound (inner_parts p (dark 0) rest) (inner_parts p (dark bound) rest) x (λ y own. (inner_dark 0 bound rest y p own).same) is)
    ∙ ap (λ n. reads name levels n bound (parts_of x.0) (at x.1 text opened)) (less_one width)
begun_reads name (Leafed a) rest text opened x levels width bound made is fits = cc
begun_reads name (Goto q) rest text opened x levels width bound made is fits = cc
begun_reads name (Opened b) rest text opened x levels width bound made is fits = cc

-- The steps on the stack.

map_reverse : {A B : Type 0} (f : A → B) (xs : List A) → map f (reverse xs) ≡ reverse (map f xs)
map_reverse f [] = refl
map_reverse f (x ∷ xs) =
    ap (map f) (reverse-append (x ∷ []) xs) ∙ map-append f (reverse xs) (x ∷ []) ∙ ap (λ ys. ys ++ f x ∷ []) (map_reverse f xs) ∙ sym (reverse-append (f x ∷ []) (map f xs))

turned : (old mid new : List Step) (b : Begun) (below stack frames : List Frame) → below ≡ [] → stack ≡ below ++ reverse frames → mid ≡ old ++ End b ∷ [] → new ≡ mid ++ map read_of stack → reverse new ≡ map read_of frames ++ (End b ∷ reverse old)
turned old mid new b below stack frames none is first second =
    ap reverse (second ∙ ap (λ fs. mid ++ map read_of fs) (is ∙ ap (λ fs. fs ++ reverse frames) none) ∙ ap (λ ys. mid ++ ys) (map_reverse read_of frames))
    ∙ reverse-append mid (reverse (map read_of frames)) ∙ ap (λ ys. ys ++ reverse mid) (reverse-reverse (map read_of frames))
    ∙ ap (λ ys. map read_of frames ++ ys) (ap reverse first ∙ reverse-append old (End b ∷ []))

read_waits : (name : List ℕ) (first : Begun) (frames : List Frame) (steps : List Step) (parts : List Part) (r : Reached) → Waits name first steps (parts ++ parts_of frames) r → Waits name first (map read_of frames ++ steps) parts r
read_waits name first [] steps parts r waits = subst (λ ps. Waits name first steps ps r) (append-nil parts) waits
read_waits name first (f ∷ frames) steps parts r waits = read_waits name first frames steps (parts ++ f.part ∷ []) r (subst (λ ps. Waits name first steps ps r) (sym (append_assoc parts (f.part ∷ []) (parts_of frames))) waits)

pub begun_waits : (name : List ℕ) (first : Begun) (old mid new : List Step) (below stack : List Frame) (part : Part) (now : Reached) (rest after : List ℕ) (o : Option (List Frame × List ℕ)) → is_made part ≡ true → rest ≡ drop now.place name → below ≡ [] → expand (length name) (inside (dark 0) 1 1 part) now.opened rest ≡ o → Expanded below stack o (Some after)
    → IsEnd name after → mid ≡ old ++ End (record { part = part; from = now }) ∷ [] → new ≡ mid ++ map read_of stack → Waits name first (Read part ∷ reverse old) [] now
    → Waits name first (reverse new) [] (record { place = length name - length after; opened = now.opened; levels = 0; width = 0 })
begun_waits name first old mid new below stack part now rest after None made is none expands expanded ends first_step second waits = absurd expanded
begun_waits name first old mid new below stack part now rest after (Some x) made is none expands expanded ends first_step second waits =
    let b : Begun = record { part = part; from = now } in
    let r : Reached = record { place = length name - length after; opened = now.opened; levels = 0; width = 0 } in
    let begins : Begins name b (parts_of x.0) r = λ levels width bound text fits deep wide.
    ap (λ s. one_reads name levels width bound part (at s text now.opened)) (sym is)
    ∙ begun_reads name part rest text now.opened x levels width bound made expands fits
    ∙ ap (λ s. reads name (inner_levels part levels) (inner_width name part width) bound (parts_of x.0) (at s text now.opened)) (expanded.2 ∙ placed name after ends) in
    subst (λ steps. Waits name first steps [] r) (sym (turned old mid new b below stack x.0 none expanded.0 first_step second))
    (read_waits name first x.0 (End b ∷ reverse old) [] r (begins, waits))

-- The loop.

only_one : (f : Part → State → Option State) (o : Option State) → o ≡ option_and_then (all f []) o
only_one f None = refl
only_one f (Some s) = refl
