-- Frames and the parts they are made of. Reading a frame is reading its parts (`step`), and the
-- parts together weigh less than the frame (`lighter`).
use Rattle.std.proofs.Common.{◌≡◌, ◌≢◌, ℕ, zero, suc, ◌+◌, ◌-◌, ◌*◌, ◌<◌, ◌≤◌, Bool, true, List, [], ◌∷◌, ◌++◌, length, map, reverse, Option, Some, None, refl, sym, ◌∙◌, ap, arith, subst, append_assoc, length-append}
use Rattle.std.specs.Option.{option_map, option_and_then}
use Rattle.std.proofs.lemmas.List.{append-nil, map-append, length-reverse, reverse-append, reverse-reverse}
use Rattle.std.proofs.Math.Nat.{mul-le-mul_left}
use Rattle.rust_names.specs.declared.grammar.Phrase.{Phrase}
use Rattle.rust_names.specs.declared.grammar.Inner.{Inner}
use Rattle.rust_names.specs.declared.grammar.Part.{Part}
use Rattle.rust_names.specs.declared.grammar.Part.TheVariants.{Deep, Back, Phrase as Made, Inner as Within, Leaf as Read, Goto, Opened}
use Rattle.rust_names.specs.declared.grammar.Scope.{Scope}
use Rattle.rust_names.specs.declared.grammar.Frame.{Frame}
use Rattle.rust_names.specs.declared.grammar.Nest.{Nest}
use Rattle.rust_names.specs.declared.words.Word.TheVariants as word
use Rattle.rust_names.specs.V0Grammar.{say, braced, deep_parts, back_parts, phrase_parts, inner_parts}
use Rattle.rust_names.specs.V0Names.{State, all, read_within, read_level, most_width}
use Rattle.rust_names.proofs.NumberLemmas.{some_is}
use Rattle.rust_names.specs.internal.Running.{total, onto, pushed, pushed_own, inside, in_scope, in_own_scope, level_by, level_in, level_frames, phrase_in, phrase_frames, inner_in, inner_frames, expand_by, expand, Expanded, is_made, read_frame, run, within_weight, level_weight, part_weight, frame_weight, weight}

inside_length : (scope : Scope) (levels width : ℕ) (ps : List Part) → length (map (inside scope levels width) ps) ≡ length ps
inside_length scope levels width [] = refl
inside_length scope levels width (p ∷ ps) = ap suc (inside_length scope levels width ps)

-- The parts of a frame are read one after the other.

pub run_none : (name : List ℕ) (s : State) → run name [] s ≡ Some s
unfolding run
run_none name s = refl

pub run_one : (name : List ℕ) (f : Frame) (fs : List Frame) (s : State) → run name (f ∷ fs) s ≡ option_and_then (run name fs) (read_frame name f s)
unfolding run
run_one name f fs s = refl

run_in : (name : List ℕ) (scope : Scope) (levels width : ℕ) (p : Part) (s : State) → read_frame name (inside scope levels width p) s ≡ read_within (read_level name levels) name width scope p s
unfolding read_frame
run_in name scope levels width p s = refl

then_parts : (name : List ℕ) (scope : Scope) (levels width : ℕ) (ps : List Part) (fs : List Frame) (o : Option State)
    → ((s : State) → run name (map (inside scope levels width) ps ++ fs) s ≡ option_and_then (run name fs) (all (read_within (read_level name levels) name width scope) ps s))
    → option_and_then (run name (map (inside scope levels width) ps ++ fs)) o ≡ option_and_then (run name fs) (option_and_then (all (read_within (read_level name levels) name width scope) ps) o)
then_parts name scope levels width ps fs None later = refl
then_parts name scope levels width ps fs (Some s) later = later s

pub run_parts : (name : List ℕ) (scope : Scope) (levels width : ℕ) (ps : List Part) (fs : List Frame) (s : State) → run name (map (inside scope levels width) ps ++ fs) s ≡ option_and_then (run name fs) (all (read_within (read_level name levels) name width scope) ps s)
run_parts name scope levels width [] fs s = refl
run_parts name scope levels width (p ∷ ps) fs s =
    run_one name (inside scope levels width p) (map (inside scope levels width) ps ++ fs) s
    ∙ ap (option_and_then (run name (map (inside scope levels width) ps ++ fs))) (run_in name scope levels width p s)
    ∙ then_parts name scope levels width ps fs (read_within (read_level name levels) name width scope p s) (λ t. run_parts name scope levels width ps fs t)

-- What reading a frame gives, if it is made of other frames.

abbrev pub after_frames : List ℕ → List Frame → State → Option (List Frame × List ℕ) → Option State
after_frames name fs s None = None
after_frames name fs s (Some x) = run name (x.0 ++ fs) (record s { rest = x.1 })

joined_parts : (name : List ℕ) (scope : Scope) (levels width : ℕ) (fs : List Frame) (s : State) (o : Option (List Part × List ℕ)) → option_and_then (run name fs) (option_and_then (λ (x : List Part × List ℕ). all (read_within (read_level name levels) name width scope) x.0 (record s { rest = x.1 })) o) ≡ after_frames name fs s (option_map (in_scope scope levels width) o)
joined_parts name scope levels width fs s None = refl
joined_parts name scope levels width fs s (Some x) = sym (run_parts name scope levels width x.0 fs (record s { rest = x.1 }))

joined_own : (name : List ℕ) (levels width : ℕ) (fs : List Frame) (s : State) (o : Option (List Part × Scope × List ℕ)) → option_and_then (run name fs) (option_and_then (λ (x : List Part × Scope × List ℕ). all (read_within (read_level name levels) name width x.1) x.0 (record s { rest = x.2 })) o) ≡ after_frames name fs s (option_map (in_own_scope levels width) o)
joined_own name levels width fs s None = refl
joined_own name levels width fs s (Some x) = sym (run_parts name x.1 levels width x.0 fs (record s { rest = x.2 }))

step_by : (name : List ℕ) (scope : Scope) (levels width : ℕ) (p : Part) (fs : List Frame) (s : State) → is_made p ≡ true → option_and_then (run name fs) (read_within (read_level name levels) name width scope p s) ≡ after_frames name fs s (expand_by (length name) (inside scope levels width p) s.opened s.rest p)
unfolding read_level
step_by name scope zero width (Deep k) fs s is = refl
step_by name scope (suc levels) width (Deep k) fs s is = joined_parts name scope levels (most_width name) fs s (deep_parts k s.rest)
step_by name scope zero width (Back k) fs s is = refl
step_by name scope (suc levels) width (Back k) fs s is = joined_parts name scope levels (most_width name) fs s (back_parts (length name) k scope.visible s.rest)
step_by name scope levels zero (Made p) fs s is = refl
step_by name scope levels (suc width) (Made p) fs s is = joined_parts name scope levels width fs s (phrase_parts p s.opened s.rest)
step_by name scope levels zero (Within p) fs s is = refl
step_by name scope levels (suc width) (Within p) fs s is = joined_own name levels width fs s (inner_parts p scope s.rest)
step_by name scope levels width (Read p) fs s is = cc
step_by name scope levels width (Goto q) fs s is = cc
step_by name scope levels width (Opened b) fs s is = cc

pub step : (name : List ℕ) (f : Frame) (fs : List Frame) (s : State) → is_made f.part ≡ true → run name (f ∷ fs) s ≡ after_frames name fs s (expand (length name) f s.opened s.rest)
unfolding expand read_frame
step name f fs s is = run_one name f fs s ∙ step_by name f.scope f.levels f.width f.part fs s is

-- Parts that are put onto a stack.

pub onto_none : (stack : List Frame) (nest : Nest) → onto stack nest [] ≡ stack
onto_none stack nest = append-nil stack

pub onto_both : (stack : List Frame) (nest : Nest) (ps qs : List Part) → onto stack nest (ps ++ qs) ≡ onto (onto stack nest qs) nest ps
onto_both stack nest ps qs =
    let one = inside nest.scope nest.levels nest.width in
    ap (λ fs. stack ++ reverse fs) (map-append one ps qs) ∙ ap (λ fs. stack ++ fs) (reverse-append (map one ps) (map one qs)) ∙ sym (append_assoc stack (reverse (map one qs)) (reverse (map one ps)))

-- A part after those that were found.
pub onto_last : (stack new : List Frame) (nest : Nest) (p : Part) (o : Option (List Part × List ℕ)) (found : Option (List Frame × List ℕ)) → new ≡ stack ++ inside nest.scope nest.levels nest.width p ∷ [] → pushed new nest o ≡ found → pushed stack nest (option_map (λ (x : List Part × List ℕ). (x.0 ++ p ∷ [], x.1)) o) ≡ found
onto_last stack new nest p None found is pushes = pushes
onto_last stack new nest p (Some x) found is pushes = ap (λ fs. Some (fs, x.1)) (onto_both stack nest x.0 (p ∷ []) ∙ ap (λ fs. onto fs nest x.0) (sym is)) ∙ pushes

-- A constant in braces.
braces : (stack : List Frame) (nest : Nest) (ps : List Part) → onto stack nest (say word.OpenBrace ∷ ps ++ say word.CloseBrace ∷ []) ≡ onto (stack ++ inside nest.scope nest.levels nest.width (say word.CloseBrace) ∷ []) nest ps ++ inside nest.scope nest.levels nest.width (say word.OpenBrace) ∷ []
braces stack nest ps =
    onto_both stack nest (say word.OpenBrace ∷ []) (ps ++ say word.CloseBrace ∷ []) ∙ ap (λ fs. fs ++ inside nest.scope nest.levels nest.width (say word.OpenBrace) ∷ []) (onto_both stack nest ps (say word.CloseBrace ∷ []))

pub braced_some : (stack first mid new : List Frame) (nest : Nest) (o : Option (List Part × List ℕ)) (after : List ℕ) → first ≡ stack ++ inside nest.scope nest.levels nest.width (say word.CloseBrace) ∷ [] → pushed first nest o ≡ Some (mid, after) → new ≡ mid ++ inside nest.scope nest.levels nest.width (say word.OpenBrace) ∷ [] → pushed stack nest (braced o) ≡ Some (new, after)
braced_some stack first mid new nest None after closes is opens = cc
braced_some stack first mid new nest (Some x) after closes is opens =
    ap (λ fs. Some (fs, x.1)) (braces stack nest x.0 ∙ ap (λ fs. onto fs nest x.0 ++ inside nest.scope nest.levels nest.width (say word.OpenBrace) ∷ []) (sym closes))
    ∙ ap (λ (y : List Frame × List ℕ). Some (y.0 ++ inside nest.scope nest.levels nest.width (say word.OpenBrace) ∷ [], y.1)) (some_is is) ∙ ap (λ fs. Some (fs, after)) (sym opens)

pub braced_none : (stack first : List Frame) (nest : Nest) (o : Option (List Part × List ℕ)) → pushed first nest o ≡ None → pushed stack nest (braced o) ≡ None
braced_none stack first nest None is = refl
braced_none stack first nest (Some x) is = cc

onto_length : (stack : List Frame) (nest : Nest) (ps : List Part) → length (onto stack nest ps) ≡ length stack + length ps
onto_length stack nest ps =
    let one = inside nest.scope nest.levels nest.width in
    omega (arith, length-append stack (reverse (map one ps)), length-reverse (map one ps), inside_length nest.scope nest.levels nest.width ps)

abbrev made_in : Nest → List Part × List ℕ → List Frame × List ℕ
made_in nest x = in_scope nest.scope nest.levels nest.width x

expanded_by : (old new : List Frame) (nest : Nest) (ps : List Part) (bytes after : List ℕ) → ◌≡◌ {A = List Frame × List ℕ} (onto old nest ps, bytes) (new, after) → length new ≤ length old + 10 → Expanded old new (Some (map (inside nest.scope nest.levels nest.width) ps, bytes)) (Some after)
expanded_by old new nest ps bytes after is few =
    let grows : onto old nest ps ≡ new = ap (λ (x : List Frame × List ℕ). x.0) is in
    (sym grows, omega (arith, few, ap length grows, onto_length old nest ps, inside_length nest.scope nest.levels nest.width ps), ap (λ (x : List Frame × List ℕ). x.1) is)

expanded_some : (old new : List Frame) (nest : Nest) (o : Option (List Part × List ℕ)) (after : List ℕ) → pushed old nest o ≡ Some (new, after) → length new ≤ length old + 10 → Expanded old new (option_map (made_in nest) o) (Some after)
expanded_some old new nest None after is few = cc
expanded_some old new nest (Some x) after is few = expanded_by old new nest x.0 x.1 after (some_is is) few

expanded_none : (old new : List Frame) (nest : Nest) (o : Option (List Part × List ℕ)) → pushed old nest o ≡ None → Expanded old new (option_map (made_in nest) o) None
expanded_none old new nest None is = tt
expanded_none old new nest (Some x) is = cc

own_some : (old new : List Frame) (nest : Nest) (o : Option (List Part × Scope × List ℕ)) (after : List ℕ) → pushed_own old nest o ≡ Some (new, after) → length new ≤ length old + 10 → Expanded old new (option_map (in_own_scope nest.levels nest.width) o) (Some after)
own_some old new nest None after is few = cc
own_some old new nest (Some x) after is few = expanded_by old new (record nest { scope = x.1 }) x.0 x.2 after (some_is is) few

own_none : (old new : List Frame) (nest : Nest) (o : Option (List Part × Scope × List ℕ)) → pushed_own old nest o ≡ None → Expanded old new (option_map (in_own_scope nest.levels nest.width) o) None
own_none old new nest None is = tt
own_none old new nest (Some x) is = cc

-- How many levels and symbols may still nest.

level_at : (size : ℕ) (scope : Scope) (p : Part) (bytes : List ℕ) (levels : ℕ) → levels ≢ 0 → level_in size scope p bytes levels ≡ option_map (in_scope scope (levels - 1) (size + 8)) (level_by size scope p bytes)
level_at size scope p bytes zero some = absurd (some refl)
level_at size scope p bytes (suc levels) some = ap (λ l. option_map (in_scope scope l (size + 8)) (level_by size scope p bytes)) (let e : levels ≡ suc levels - 1 = omega arith in e)

pub level_over : (size : ℕ) (f : Frame) (bytes : List ℕ) (old new : List Frame) → f.levels ≡ 0 → Expanded old new (level_frames size f bytes) None
level_over size f bytes old new is = subst (λ o. Expanded old new o None) (sym (ap (level_in size f.scope f.part bytes) is)) tt

pub level_none : (size : ℕ) (f : Frame) (bytes : List ℕ) (old new : List Frame) → f.levels ≢ 0 → pushed old (record { scope = f.scope; levels = f.levels - 1; width = size + 8 }) (level_by size f.scope f.part bytes) ≡ None → Expanded old new (level_frames size f bytes) None
level_none size f bytes old new some is =
    subst (λ o. Expanded old new o None) (sym (level_at size f.scope f.part bytes f.levels some)) (expanded_none old new (record { scope = f.scope; levels = f.levels - 1; width = size + 8 }) (level_by size f.scope f.part bytes) is)

pub level_some : (size : ℕ) (f : Frame) (bytes : List ℕ) (old new : List Frame) (after : List ℕ) → f.levels ≢ 0 → pushed old (record { scope = f.scope; levels = f.levels - 1; width = size + 8 }) (level_by size f.scope f.part bytes) ≡ Some (new, after) → length new ≤ length old + 10 → Expanded old new (level_frames size f bytes) (Some after)
level_some size f bytes old new after some is few =
    subst (λ o. Expanded old new o (Some after)) (sym (level_at size f.scope f.part bytes f.levels some)) (expanded_some old new (record { scope = f.scope; levels = f.levels - 1; width = size + 8 }) (level_by size f.scope f.part bytes) after is few)

phrase_at : (p : Phrase) (scope : Scope) (levels : ℕ) (opened : Bool) (bytes : List ℕ) (width : ℕ) → width ≢ 0 → phrase_in p scope levels opened bytes width ≡ option_map (in_scope scope levels (width - 1)) (phrase_parts p opened bytes)
phrase_at p scope levels opened bytes zero some = absurd (some refl)
phrase_at p scope levels opened bytes (suc width) some = ap (λ w. option_map (in_scope scope levels w) (phrase_parts p opened bytes)) (let e : width ≡ suc width - 1 = omega arith in e)

pub phrase_over : (p : Phrase) (f : Frame) (opened : Bool) (bytes : List ℕ) (old new : List Frame) → f.width ≡ 0 → Expanded old new (phrase_frames p f opened bytes) None
phrase_over p f opened bytes old new is = subst (λ o. Expanded old new o None) (sym (ap (phrase_in p f.scope f.levels opened bytes) is)) tt

pub phrase_none : (p : Phrase) (f : Frame) (opened : Bool) (bytes : List ℕ) (old new : List Frame) → f.width ≢ 0 → pushed old (record { scope = f.scope; levels = f.levels; width = f.width - 1 }) (phrase_parts p opened bytes) ≡ None → Expanded old new (phrase_frames p f opened bytes) None
phrase_none p f opened bytes old new some is =
    subst (λ o. Expanded old new o None) (sym (phrase_at p f.scope f.levels opened bytes f.width some)) (expanded_none old new (record { scope = f.scope; levels = f.levels; width = f.width - 1 }) (phrase_parts p opened bytes) is)

pub phrase_some : (p : Phrase) (f : Frame) (opened : Bool) (bytes : List ℕ) (old new : List Frame) (after : List ℕ) → f.width ≢ 0 → pushed old (record { scope = f.scope; levels = f.levels; width = f.width - 1 }) (phrase_parts p opened bytes) ≡ Some (new, after) → length new ≤ length old + 10 → Expanded old new (phrase_frames p f opened bytes) (Some after)
phrase_some p f opened bytes old new after some is few =
    subst (λ o. Expanded old new o (Some after)) (sym (phrase_at p f.scope f.levels opened bytes f.width some)) (expanded_some old new (record { scope = f.scope; levels = f.levels; width = f.width - 1 }) (phrase_parts p opened bytes) after is few)

inner_at : (p : Inner) (scope : Scope) (levels : ℕ) (bytes : List ℕ) (width : ℕ) → width ≢ 0 → inner_in p scope levels bytes width ≡ option_map (in_own_scope levels (width - 1)) (inner_parts p scope bytes)
inner_at p scope levels bytes zero some = absurd (some refl)
inner_at p scope levels bytes (suc width) some = ap (λ w. option_map (in_own_scope levels w) (inner_parts p scope bytes)) (let e : width ≡ suc width - 1 = omega arith in e)

pub inner_over : (p : Inner) (f : Frame) (bytes : List ℕ) (old new : List Frame) → f.width ≡ 0 → Expanded old new (inner_frames p f bytes) None
inner_over p f bytes old new is = subst (λ o. Expanded old new o None) (sym (ap (inner_in p f.scope f.levels bytes) is)) tt

pub inner_none : (p : Inner) (f : Frame) (bytes : List ℕ) (old new : List Frame) → f.width ≢ 0 → pushed_own old (record { scope = f.scope; levels = f.levels; width = f.width - 1 }) (inner_parts p f.scope bytes) ≡ None → Expanded old new (inner_frames p f bytes) None
inner_none p f bytes old new some is =
    subst (λ o. Expanded old new o None) (sym (inner_at p f.scope f.levels bytes f.width some)) (own_none old new (record { scope = f.scope; levels = f.levels; width = f.width - 1 }) (inner_parts p f.scope bytes) is)

pub inner_some : (p : Inner) (f : Frame) (bytes : List ℕ) (old new : List Frame) (after : List ℕ) → f.width ≢ 0 → pushed_own old (record { scope = f.scope; levels = f.levels; width = f.width - 1 }) (inner_parts p f.scope bytes) ≡ Some (new, after) → length new ≤ length old + 10 → Expanded old new (inner_frames p f bytes) (Some after)
inner_some p f bytes old new after some is few =
    subst (λ o. Expanded old new o (Some after)) (sym (inner_at p f.scope f.levels bytes f.width some)) (own_some old new (record { scope = f.scope; levels = f.levels; width = f.width - 1 }) (inner_parts p f.scope bytes) after is few)

-- The weight of a frame's parts.

some_weight : (c width : ℕ) → 1 ≤ within_weight c width
unfolding within_weight
some_weight c zero = omega arith
some_weight c (suc width) = omega arith

total_one : (f : Frame → ℕ) (x : Frame) (xs : List Frame) → total f (x ∷ xs) ≡ f x + total f xs
total_one f x xs = refl

total_both : (f : Frame → ℕ) (xs ys : List Frame) → total f (xs ++ ys) ≡ total f xs + total f ys
total_both f [] ys = omega arith
total_both f (x ∷ xs) ys = omega (arith, total_one f x (xs ++ ys), total_one f x xs, total_both f xs ys)

most_part : (size levels width : ℕ) (scope : Scope) (p : Part) → frame_weight size (inside scope levels width p) ≤ level_weight size levels + within_weight (level_weight size levels) width
unfolding frame_weight
most_part size levels width scope (Deep k) = omega arith
most_part size levels width scope (Back k) = omega arith
most_part size levels width scope (Made p) = omega arith
most_part size levels width scope (Within p) = omega arith
most_part size levels width scope (Read p) = omega (arith, some_weight (level_weight size levels) width)
most_part size levels width scope (Goto q) = omega (arith, some_weight (level_weight size levels) width)
most_part size levels width scope (Opened b) = omega (arith, some_weight (level_weight size levels) width)

most_parts : (size levels width : ℕ) (scope : Scope) (most : ℕ) (ps : List Part) → ((p : Part) → frame_weight size (inside scope levels width p) ≤ most) → total (frame_weight size) (map (inside scope levels width) ps) ≤ most * length ps
most_parts size levels width scope most [] each = omega arith
most_parts size levels width scope most (p ∷ ps) each =
    let rest = map (inside scope levels width) ps in
    let n = length ps in
    let long : most * suc n ≡ most * n + most = omega arith in
    let one : total (frame_weight size) (map (inside scope levels width) (p ∷ ps)) ≡ frame_weight size (inside scope levels width p) + total (frame_weight size) rest = refl in
    omega (arith, one, long, each p, most_parts size levels width scope most ps each)

few_parts : (size levels width : ℕ) (scope : Scope) (ps : List Part) → length ps ≤ 10 → total (frame_weight size) (map (inside scope levels width) ps) < 1 + 16 * (level_weight size levels + within_weight (level_weight size levels) width)
few_parts size levels width scope ps few =
    let most = level_weight size levels + within_weight (level_weight size levels) width in
    let all_of = most_parts size levels width scope most ps (λ p. most_part size levels width scope p) in
    omega (arith, all_of, mul-le-mul_left most few)

-- The parts weigh less than the frame.

abbrev pub Lighter : ℕ → ℕ → Option (List Frame × List ℕ) → Type 0
Lighter size most None = Unit {0}
Lighter size most (Some x) = total (frame_weight size) x.0 < most

abbrev pub Few : Option (List Frame × List ℕ) → Type 0
Few None = Unit {0}
Few (Some x) = length x.0 ≤ 10

lighter_parts : (size levels width : ℕ) (scope : Scope) (o : Option (List Part × List ℕ)) → Few (option_map (in_scope scope levels width) o) → Lighter size (1 + 16 * (level_weight size levels + within_weight (level_weight size levels) width)) (option_map (in_scope scope levels width) o)
lighter_parts size levels width scope None few = tt
lighter_parts size levels width scope (Some x) few = few_parts size levels width scope x.0 (omega (arith, few, inside_length scope levels width x.0))

lighter_own : (size levels width : ℕ) (o : Option (List Part × Scope × List ℕ)) → Few (option_map (in_own_scope levels width) o) → Lighter size (1 + 16 * (level_weight size levels + within_weight (level_weight size levels) width)) (option_map (in_own_scope levels width) o)
lighter_own size levels width None few = tt
lighter_own size levels width (Some x) few = few_parts size levels width x.1 x.0 (omega (arith, few, inside_length x.1 levels width x.0))

lighter_by : (size levels width : ℕ) (scope : Scope) (opened : Bool) (bytes : List ℕ) (p : Part) → is_made p ≡ true → Few (expand_by size (inside scope levels width p) opened bytes p) → Lighter size (part_weight size levels width p) (expand_by size (inside scope levels width p) opened bytes p)
unfolding level_weight within_weight
lighter_by size zero width scope opened bytes (Deep k) is few = tt
lighter_by size (suc levels) width scope opened bytes (Deep k) is few = lighter_parts size levels (size + 8) scope (deep_parts k bytes) few
lighter_by size zero width scope opened bytes (Back k) is few = tt
lighter_by size (suc levels) width scope opened bytes (Back k) is few = lighter_parts size levels (size + 8) scope (back_parts size k scope.visible bytes) few
lighter_by size levels zero scope opened bytes (Made p) is few = tt
lighter_by size levels (suc width) scope opened bytes (Made p) is few = lighter_parts size levels width scope (phrase_parts p opened bytes) few
lighter_by size levels zero scope opened bytes (Within p) is few = tt
lighter_by size levels (suc width) scope opened bytes (Within p) is few = lighter_own size levels width (inner_parts p scope bytes) few
lighter_by size levels width scope opened bytes (Read p) is few = cc
lighter_by size levels width scope opened bytes (Goto q) is few = cc
lighter_by size levels width scope opened bytes (Opened b) is few = cc

-- The weight of a stack.

reverse_weight : (f : Frame → ℕ) (xs : List Frame) → total f (reverse xs) ≡ total f xs
reverse_weight f [] = refl
reverse_weight f (x ∷ xs) =
    let last : total f (x ∷ []) ≡ f x + 0 = refl in
    let turned : total f (reverse (x ∷ xs)) ≡ total f (reverse xs ++ x ∷ []) = ap (total f) (reverse-append (x ∷ []) xs) in
    omega (arith, last, turned, total_one f x xs, total_both f (reverse xs) (x ∷ []), reverse_weight f xs)

-- If the frame on top is replaced by the frames it is made of, the stack gets lighter.
pub lighter : (size : ℕ) (f : Frame) (below new : List Frame) (frames : List Frame) (opened : Bool) (bytes after : List ℕ) → is_made f.part ≡ true → expand size f opened bytes ≡ Some (frames, after) → length frames ≤ 10 → new ≡ below ++ reverse frames → weight size new < weight size (below ++ f ∷ [])
unfolding expand weight frame_weight
lighter size f below new frames opened bytes after made is few grows =
    let light : Lighter size (part_weight size f.levels f.width f.part) (Some (frames, after)) =
    subst (Lighter size (part_weight size f.levels f.width f.part)) is (lighter_by size f.levels f.width f.scope opened bytes f.part made (subst Few (sym is) few)) in
    omega (arith, light, ap (total (frame_weight size)) grows, total_both (frame_weight size) below (reverse frames), reverse_weight (frame_weight size) frames, total_both (frame_weight size) below (f ∷ []), total_one (frame_weight size) f [])

popped : (size : ℕ) (f : Frame) (below : List Frame) → 1 ≤ frame_weight size f → weight size below < weight size (below ++ f ∷ [])
unfolding weight
popped size f below some = omega (arith, some, total_both (frame_weight size) below (f ∷ []), total_one (frame_weight size) f [])

some_level : (size levels : ℕ) → 1 ≤ level_weight size levels
unfolding level_weight
some_level size zero = omega arith
some_level size (suc levels) = omega arith

some_part : (size levels width : ℕ) (p : Part) → 1 ≤ part_weight size levels width p
some_part size levels width (Deep k) = some_level size levels
some_part size levels width (Back k) = some_level size levels
some_part size levels width (Made p) = some_weight (level_weight size levels) width
some_part size levels width (Within p) = some_weight (level_weight size levels) width
some_part size levels width (Read p) = omega arith
some_part size levels width (Goto q) = omega arith
some_part size levels width (Opened b) = omega arith

pub light : (size : ℕ) (f : Frame) (below : List Frame) → weight size below < weight size (below ++ f ∷ [])
unfolding frame_weight
light size f below = popped size f below (some_part size f.levels f.width f.part)

-- A stack is read from its top.

pub top : (f : Frame) (below old : List Frame) → old ≡ below ++ f ∷ [] → reverse old ≡ f ∷ reverse below
top f below old is = ap reverse is ∙ reverse-append below (f ∷ [])

pub on_top : (frames below new : List Frame) → new ≡ below ++ reverse frames → reverse new ≡ frames ++ reverse below
on_top frames below new is = ap reverse is ∙ reverse-append below (reverse frames) ∙ ap (λ fs. fs ++ reverse below) (reverse-reverse frames)
