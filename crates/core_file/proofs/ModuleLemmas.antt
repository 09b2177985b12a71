-- The list of modules, to which one after the other is added.
use Rattle.std.proofs.Common.{◌≡◌, ℕ, ◌<◌, ◌≤◌, ◌^◌, Bool, true, false, List, [], ◌∷◌, ◌++◌, Option, None, Some, length, take, refl, sym, ◌∙◌, ap, arith, append_assoc}
use Rattle.std.specs.Prelude.{◌&&◌, ◌||◌, nat_le, nat_lt, map}
use Rattle.std.specs.List.{list_any}
use Rattle.std.specs.Str.{bytes_eq}
use Rattle.std.specs.Ordering.{nat_cmp}
use Rattle.std.specs.BTreeSet.{BTreeSet, contains}
use Rattle.std.proofs.lemmas.Bool.{lt-ltb}
use Rattle.std.proofs.lemmas.Bool.Decides.{nat_tests}
use Rattle.std.proofs.lemmas.List.{append-nil, take_all, take-append-le, nil_from_length}
use Rattle.std.proofs.lemmas.List.Folds.{list_any-append}
use Rattle.core_file.specs.declared.modules.Module.{Module}
use Rattle.core_file.specs.declared.files.FilePlace.{FilePlace}
use Rattle.core_file.specs.MappedFiles.{MappedFile}
use Rattle.core_file.specs.Memory.{Memory}
use Rattle.core_file.specs.LoadedImages.{LoadedImage, image_at}
use Rattle.core_file.specs.Modules.{end_behind, module_by, module_of, has_first_page, lies_in, is_own_page, begins_module, modules_from, modules_in}
use Rattle.core_file.specs.Code.{has_code, has_code_by, module_has, is_code}
use Rattle.step_maps.specs.Covers.{AreStretches, reaches}
use Rattle.core_file.specs.declared.modules.Listing.{Listing}
use Rattle.core_file.specs.internal.Listings.{IsListing}
use Rattle.core_file.specs.internal.FilePlaces.{file_view}
use Rattle.core_file.proofs.BoolLemmas.{and_false}

-- The next mapping is of the same file, or it is not.
pub end_more : (text : List ℕ) (end : ℕ) (f : MappedFile) (later : List MappedFile) → bytes_eq f.text text ≡ true → 0 < f.offset → end_behind text f.end later ≡ end_behind text end (f ∷ later)
unfolding end_behind
end_more text end f later same some = rw (same, lt-ltb 0 f.offset some) refl

pub end_other : (text : List ℕ) (end : ℕ) (f : MappedFile) (later : List MappedFile) → bytes_eq f.text text ≡ false → end ≡ end_behind text end (f ∷ later)
unfolding end_behind
end_other text end f later other = rw other refl

pub end_begin : (text : List ℕ) (end : ℕ) (f : MappedFile) (later : List MappedFile) → f.offset ≡ 0 → end ≡ end_behind text end (f ∷ later)
unfolding end_behind
end_begin text end f later begin =
    let n : nat_lt 0 f.offset ≡ false = grind (arith, nat_tests) in
    rw (n, and_false (bytes_eq f.text text)) refl

pub end_none : (note text : List ℕ) (end : ℕ) (files : List FilePlace) → length files ≡ 0 → end ≡ end_behind text end (map (file_view note) files)
unfolding end_behind
end_none note text end files none = rw (nil_from_length files none) refl

-- The pages of one module more.
own_more : (memory : Memory) (modules : List Module) (m : Module) (a : ℕ) → is_own_page memory (modules ++ m ∷ []) a ≡ (is_own_page memory modules a || ((lies_in m a && has_first_page a m.start (image_at memory m.start)) || false))
unfolding is_own_page
own_more memory modules m a = list_any-append (λ n. lies_in n a && has_first_page a n.start (image_at memory n.start)) modules (m ∷ [])

or_false : (x y z : Bool) → y ≡ z → (x || (y || false)) ≡ (x || z)
or_false true y z is = refl
or_false false true z is = is
or_false false false z is = is

or_none : (x y : Bool) → y ≡ false → (x || (y || false)) ≡ x
or_none true y is = refl
or_none false y is = rw is refl

pub pages_plain : (memory : Memory) (set : BTreeSet ℕ) (modules : List Module) (m : Module) → image_at memory m.start ≡ None → ((a : ℕ) → contains nat_cmp set a ≡ is_own_page memory modules a) → (a : ℕ) → contains nat_cmp set a ≡ is_own_page memory (modules ++ m ∷ []) a
pages_plain memory set modules m none is a =
    is a ∙ sym (own_more memory modules m a ∙ or_none (is_own_page memory modules a) _ (rw none (and_false (lies_in m a))))

pub pages_loaded : (memory : Memory) (old new : BTreeSet ℕ) (modules : List Module) (m : Module) (image : LoadedImage) → image_at memory m.start ≡ Some image → ((a : ℕ) → contains nat_cmp old a ≡ is_own_page memory modules a) → ((a : ℕ) → contains nat_cmp new a ≡ (contains nat_cmp old a || (nat_le m.start a && nat_lt a m.end && has_first_page a m.start (Some image)))) → (a : ℕ) → contains nat_cmp new a ≡ is_own_page memory (modules ++ m ∷ []) a
pages_loaded memory old new modules m image some is added a =
    added a ∙ ap (λ c. c || (lies_in m a && has_first_page a m.start (Some image))) (is a)
    ∙ sym (own_more memory modules m a ∙ or_false (is_own_page memory modules a) _ (lies_in m a && has_first_page a m.start (Some image)) (rw some refl))

-- The code of one module more.
or_assoc : (x y z w : Bool) → z ≡ w → (x || (y || (z || false))) ≡ ((x || y) || w)
or_assoc true y z w is = refl
or_assoc false true z w is = refl
or_assoc false false true w is = is
or_assoc false false false w is = is

code_more : (memory : Memory) (modules : List Module) (m : Module) (a : ℕ) (b : Bool) → module_has memory a m ≡ b → is_code memory (modules ++ m ∷ []) a ≡ (is_code memory modules a || b)
unfolding is_code
code_more memory modules m a b is =
    ap (λ r. list_any (has_code a) memory.segments || r) (list_any-append (module_has memory a) modules (m ∷ []))
    ∙ or_assoc (list_any (has_code a) memory.segments) (list_any (module_has memory a) modules) (module_has memory a m) b is

or_right : (x : Bool) → (x || false) ≡ x
or_right true = refl
or_right false = refl

pub code_plain : (memory : Memory) (modules : List Module) (m : Module) (c : ℕ → Bool) → image_at memory m.start ≡ None → ((a : ℕ) → a < 2 ^ 64 → c a ≡ is_code memory modules a) → (a : ℕ) → a < 2 ^ 64 → c a ≡ is_code memory (modules ++ m ∷ []) a
unfolding module_has
code_plain memory modules m c none is a below =
    is a below ∙ sym (code_more memory modules m a false (rw none refl) ∙ or_right (is_code memory modules a))

pub code_loaded : (memory : Memory) (modules : List Module) (m : Module) (image : LoadedImage) (old new : ℕ → Bool) → image_at memory m.start ≡ Some image → ((a : ℕ) → a < 2 ^ 64 → old a ≡ is_code memory modules a) → ((a : ℕ) → a < 2 ^ 64 → new a ≡ (old a || has_code_by m.start a (Some image))) → (a : ℕ) → a < 2 ^ 64 → new a ≡ is_code memory (modules ++ m ∷ []) a
unfolding module_has
code_loaded memory modules m image old new some is added a below =
    added a below ∙ ap (λ c. c || has_code_by m.start a (Some image)) (is a below)
    ∙ sym (code_more memory modules m a (has_code_by m.start a (Some image)) (rw some refl))

-- The modules of the mappings that are left.
pub listed_begin : (limit : ℕ) (memory : Memory) (files : List MappedFile) (before : List Module) → before ≡ [] → take limit (before ++ modules_from memory before files) ≡ modules_in limit memory files
unfolding modules_in
listed_begin limit memory files before none = rw none refl

pub listed_more : (limit : ℕ) (memory : Memory) (f : MappedFile) (later : List MappedFile) (before after : List Module) → begins_module memory before f ≡ true → after ≡ before ++ module_of memory f later ∷ [] → take limit (after ++ modules_from memory after later) ≡ take limit (before ++ modules_from memory before (f ∷ later))
unfolding modules_from
listed_more limit memory f later before after begins is =
    rw (is, begins) (ap (take limit) (append_assoc before (module_of memory f later ∷ []) (modules_from memory (before ++ module_of memory f later ∷ []) later)))

pub listed_other : (limit : ℕ) (memory : Memory) (f : MappedFile) (later : List MappedFile) (before : List Module) → begins_module memory before f ≡ false → take limit (before ++ modules_from memory before later) ≡ take limit (before ++ modules_from memory before (f ∷ later))
unfolding modules_from
listed_other limit memory f later before other = rw other refl

pub listed_full : (limit : ℕ) (before more : List Module) → limit ≤ length before → length before ≤ limit → take limit (before ++ more) ≡ before
listed_full limit before more full few = take-append-le limit before more full ∙ take_all limit before few

pub listed_end : (limit : ℕ) (memory : Memory) (note : List ℕ) (files : List FilePlace) (before : List Module) → length files ≡ 0 → length before ≤ limit → take limit (before ++ modules_from memory before (map (file_view note) files)) ≡ before
unfolding modules_from
listed_end limit memory note files before none few =
    rw (nil_from_length files none) (ap (take limit) (append-nil before) ∙ take_all limit before few)

pub module_is : (memory : Memory) (f : MappedFile) (later : List MappedFile) (image : Option LoadedImage) → image_at memory f.start ≡ image → module_of memory f later ≡ module_by memory f later image
unfolding module_of
module_is memory f later image is = ap (module_by memory f later) is

-- A module without headers in memory is added, or one with them.
pub listing_plain : (memory : Memory) (old new : Listing) (m : Module) (start : ℕ) → m.start ≡ start → image_at memory start ≡ None → IsListing memory old → new.modules.items ≡ old.modules.items ++ m ∷ [] → new.pages ≡ old.pages → new.code ≡ old.code → IsListing memory new
listing_plain memory old new m start starts none is modules pages code =
    let n : image_at memory m.start ≡ None = ap (image_at memory) starts ∙ none in
    record {
      pages = rw (modules, pages) (pages_plain memory old.pages old.modules.items m n is.pages);
      code = rw (modules, code) (code_plain memory old.modules.items m (λ a. list_any (λ s. reaches s a) old.code.items) n is.code);
      some = rw code is.some;
    }

pub listing_loaded : (memory : Memory) (old new : Listing) (m : Module) (start : ℕ) (image : LoadedImage) → m.start ≡ start → image_at memory start ≡ Some image → IsListing memory old → new.modules.items ≡ old.modules.items ++ m ∷ [] → ((a : ℕ) → contains nat_cmp new.pages a ≡ (contains nat_cmp old.pages a || (nat_le start a && nat_lt a m.end && has_first_page a start (Some image)))) → AreStretches new.code.items → ((a : ℕ) → a < 2 ^ 64 → list_any (λ s. reaches s a) new.code.items ≡ (list_any (λ s. reaches s a) old.code.items || has_code_by start a (Some image))) → IsListing memory new
listing_loaded memory old new m start image starts some is modules pages stretches code =
    let n : image_at memory m.start ≡ Some image = ap (image_at memory) starts ∙ some in
    record {
      pages = rw modules (pages_loaded memory old.pages new.pages old.modules.items m image n is.pages (λ a. rw starts (pages a)));
      code = rw modules (code_loaded memory old.modules.items m image (λ a. list_any (λ s. reaches s a) old.code.items) (λ a. list_any (λ s. reaches s a) new.code.items) n is.code (λ a below. rw starts (code a below)));
      some = stretches;
    }
