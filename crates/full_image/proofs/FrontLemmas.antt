-- The first fault of a file, before and after its compressed sections are inflated.
use Rattle.std.proofs.Common.{◌≡◌, ◌<◌, ◌^◌, ℕ, length, arith, Bool, true, false, List, Option, None, Some, Result, Ok, Err, map, MatchResult, refl, sym, ap, subst, ◌∙◌}
use Rattle.std.specs.Option.{option_or}
use Rattle.std.proofs.lemmas.List.{length-map}
use Rattle.sym_edges.specs.Outside.{MatchStop}
use Rattle.sym_edges.specs.declared.fault.Stop.{Stop}
use Rattle.sym_edges.specs.declared.fault.Stop.TheVariants.{Fault, NoMemory}
use Rattle.sym_edges.specs.Results.{fault_if}
use Rattle.elf_sections.specs.FileHeader.{header_fault}
use Rattle.elf_sections.specs.Sections.{names_fault, bytes_fault, compressed_fault}
use Rattle.elf_sections.specs.Image.{ImageParts, loaded_fault, image_fault, parts_of, image_by, image, with_sections}
use Rattle.elf_sections.specs.declared.fault.ElfFault.{ElfFault}
use Rattle.elf_sections.specs.declared.fault.ElfFault.TheVariants.{InflatedTooLong}
use Rattle.full_image.specs.Compressed.{Stream}
use Rattle.full_image.specs.FullImage.{Packed, sections_fault, are_too_long, streams, streams_by, outcome_of, outcomes_of, inflate_fault, full_fault, full_sections, full_image, any_image}
use Rattle.full_image.specs.internal.Front.{tables_fault, front_fault}

-- A fault found early is the first fault whatever comes later.
later : {F : Type 0} (h n s l t i : Option F) (fault : F) → option_or h (option_or n (option_or s (option_or l t))) ≡ Some fault → option_or h (option_or n (option_or s (option_or l (option_or t i)))) ≡ Some fault
later (Some h) n s l t i fault is = is
later None (Some n) s l t i fault is = is
later None None (Some s) l t i fault is = is
later None None None (Some l) t i fault is = is
later None None None None (Some t) i fault is = is
later None None None None None i fault is = absurd (cc)

last : {F : Type 0} (h n s l t i : Option F) → option_or h (option_or n (option_or s (option_or l t))) ≡ None → option_or h (option_or n (option_or s (option_or l (option_or t i)))) ≡ i
last (Some h) n s l t i is = absurd (cc)
last None (Some n) s l t i is = absurd (cc)
last None None (Some s) l t i is = absurd (cc)
last None None None (Some l) t i is = absurd (cc)
last None None None None (Some t) i is = absurd (cc)
last None None None None None i is = refl

joined : {F : Type 0} (h n b c l : Option F) → option_or h (option_or n (option_or b (option_or c l))) ≡ option_or h (option_or n (option_or (option_or b c) (option_or l None)))
joined (Some h) n b c l = refl
joined None (Some n) b c l = refl
joined None None (Some b) c l = refl
joined None None None (Some c) l = refl
joined None None None None (Some l) = refl
joined None None None None None = refl

plain_front : (file : List ℕ) → image_fault file ≡ front_fault false file
unfolding image_fault front_fault are_too_long
plain_front file = joined (header_fault file) (names_fault file) (bytes_fault file) (compressed_fault file) (loaded_fault file)

full_refused : (file : List ℕ) (fault : ElfFault) → front_fault true file ≡ Some fault → full_fault file ≡ Some fault
unfolding front_fault full_fault
full_refused file fault is = later (header_fault file) (names_fault file) (sections_fault file) (loaded_fault file) (fault_if (are_too_long (streams file)) InflatedTooLong None) (inflate_fault (map outcome_of (streams file))) fault is

pub front_refused : (full : Bool) (file : List ℕ) (fault : ElfFault) → front_fault full file ≡ Some fault → any_image full file ≡ Err fault
unfolding full_image image
front_refused false file fault is = ap (λ f. image_by f (parts_of file)) (plain_front file ∙ is)
front_refused true file fault is = ap (λ f. image_by f (with_sections (full_sections file) (parts_of file))) (full_refused file fault is)

full_last : (file : List ℕ) → front_fault true file ≡ None → full_fault file ≡ inflate_fault (outcomes_of (record { full = true; file = file }))
unfolding front_fault full_fault outcomes_of
full_last file is = last (header_fault file) (names_fault file) (sections_fault file) (loaded_fault file) (fault_if (are_too_long (streams file)) InflatedTooLong None) (inflate_fault (map outcome_of (streams file))) is

pub plain_image : (file : List ℕ) → front_fault false file ≡ None → any_image false file ≡ Ok (parts_of file)
unfolding image
plain_image file is = ap (λ f. image_by f (parts_of file)) (plain_front file ∙ is)

-- The image with the inflated sections.
opened_image : (file : List ℕ) (outcomes : List (Option (List ℕ))) → front_fault true file ≡ None → outcomes ≡ outcomes_of (record { full = true; file = file })
    → any_image true file ≡ image_by (inflate_fault outcomes) (with_sections (full_sections file) (parts_of file))
unfolding full_image
opened_image file outcomes is are = ap (λ f. image_by f (with_sections (full_sections file) (parts_of file))) (full_last file is ∙ ap inflate_fault (sym are))

pub same_answer : (one other : Result ImageParts ElfFault) (answer : Result ImageParts ElfFault) → one ≡ other → MatchResult answer (λ i. other ≡ Ok i) (λ fault. other ≡ Err fault) → MatchResult answer (λ i. one ≡ Ok i) (λ fault. one ≡ Err fault)
same_answer one other answer is says = subst (λ (r : Result ImageParts ElfFault). MatchResult answer (λ i. r ≡ Ok i) (λ fault. r ≡ Err fault)) (sym is) says

pub unpacked : (self : Packed) (full : Bool) (file : List ℕ) (plain : ImageParts) (outcomes : List (Option (List ℕ))) (answer : Result ImageParts ElfFault) → record { full = full; file = file } ≡ self → full ≡ true → front_fault full file ≡ None → plain ≡ parts_of file → outcomes ≡ outcomes_of self
    → MatchResult answer (λ i. image_by (inflate_fault outcomes) (with_sections (full_sections file) plain) ≡ Ok i) (λ fault. image_by (inflate_fault outcomes) (with_sections (full_sections file) plain) ≡ Err fault)
    → MatchResult answer (λ i. any_image self.full self.file ≡ Ok i) (λ fault. any_image self.full self.file ≡ Err fault)
unpacked self full file plain outcomes answer view is front loaded are says =
    let outs : outcomes ≡ outcomes_of (record { full = true; file = file }) = are ∙ sym (ap outcomes_of view) ∙ ap (λ b. outcomes_of (record { full = b; file = file })) is in
    same_answer (any_image self.full self.file) (image_by (inflate_fault outcomes) (with_sections (full_sections file) plain)) answer
    (sym (ap (λ (p : Packed). any_image p.full p.file) view) ∙ ap (λ b. any_image b file) is
    ∙ opened_image file outcomes (sym (ap (λ b. front_fault b file) is) ∙ front) outs
    ∙ ap (λ (p : ImageParts). image_by (inflate_fault outcomes) (with_sections (full_sections file) p)) (sym loaded)) says

pub few_outcomes : (full : Bool) (file : List ℕ) (outcomes : List (Option (List ℕ))) (found : List (Option Stream)) → outcomes ≡ outcomes_of (record { full = full; file = file }) → found ≡ streams_by full file → length found < 2 ^ 16 → length outcomes < 2 ^ 16
unfolding outcomes_of
few_outcomes full file outcomes found are is few = let long : length outcomes ≡ length found = ap length are ∙ length-map (streams_by full file) outcome_of ∙ ap length (sym is) in omega (arith, long, few)

by_tables : {F : Type 0} (h n s l t : Option F) (fault : F) → option_or h n ≡ Some fault → option_or h (option_or n (option_or s (option_or l t))) ≡ Some fault
by_tables (Some h) n s l t fault is = is
by_tables None (Some n) s l t fault is = is
by_tables None None s l t fault is = absurd (cc)

behind_tables : {F : Type 0} (h n r : Option F) → option_or h n ≡ None → option_or h (option_or n r) ≡ r
behind_tables (Some h) n r is = absurd (cc)
behind_tables None (Some n) r is = absurd (cc)
behind_tables None None r is = refl

of_tables : (full : Bool) (file : List ℕ) (fault : ElfFault) → option_or (header_fault file) (names_fault file) ≡ Some fault → front_fault full file ≡ Some fault
unfolding front_fault
of_tables full file fault is = by_tables (header_fault file) (names_fault file) (tables_fault full file) (loaded_fault file) (fault_if (are_too_long (streams_by full file)) InflatedTooLong None) fault is

refused_tables : (full : Bool) (file : List ℕ) (fault : ElfFault) → option_or (header_fault file) (names_fault file) ≡ Some fault → any_image full file ≡ Err fault
refused_tables full file fault is = front_refused full file fault (of_tables full file fault is)

front_is : (full : Bool) (file : List ℕ) → option_or (header_fault file) (names_fault file) ≡ None → front_fault full file ≡ option_or (tables_fault full file) (option_or (loaded_fault file) (fault_if (are_too_long (streams_by full file)) InflatedTooLong None))
unfolding front_fault
front_is full file none = behind_tables (header_fault file) (names_fault file) (option_or (tables_fault full file) (option_or (loaded_fault file) (fault_if (are_too_long (streams_by full file)) InflatedTooLong None))) none

pub refused_sections : (full : Bool) (file : List ℕ) (fault : ElfFault) → option_or (header_fault file) (names_fault file) ≡ None → tables_fault full file ≡ Some fault → any_image full file ≡ Err fault
refused_sections full file fault none is = front_refused full file fault (front_is full file none ∙ ap (λ o. option_or o (option_or (loaded_fault file) (fault_if (are_too_long (streams_by full file)) InflatedTooLong None))) is)

refused_loaded : (full : Bool) (file : List ℕ) (fault : ElfFault) → option_or (header_fault file) (names_fault file) ≡ None → tables_fault full file ≡ None → loaded_fault file ≡ Some fault → any_image full file ≡ Err fault
refused_loaded full file fault none whole is = front_refused full file fault (front_is full file none ∙ ap (λ o. option_or o (option_or (loaded_fault file) (fault_if (are_too_long (streams_by full file)) InflatedTooLong None))) whole ∙ ap (λ o. option_or o (fault_if (are_too_long (streams_by full file)) InflatedTooLong None)) is)

front_last : (full : Bool) (file : List ℕ) (long : Bool) → option_or (header_fault file) (names_fault file) ≡ None → tables_fault full file ≡ None → loaded_fault file ≡ None → are_too_long (streams_by full file) ≡ long → front_fault full file ≡ fault_if long InflatedTooLong None
front_last full file long none whole loads is = front_is full file none ∙ ap (λ o. option_or o (option_or (loaded_fault file) (fault_if (are_too_long (streams_by full file)) InflatedTooLong None))) whole ∙ ap (λ o. option_or o (fault_if (are_too_long (streams_by full file)) InflatedTooLong None)) loads ∙ ap (λ b. fault_if b InflatedTooLong None) is

pub refused_long : (full : Bool) (file : List ℕ) → option_or (header_fault file) (names_fault file) ≡ None → tables_fault full file ≡ None → loaded_fault file ≡ None → are_too_long (streams_by full file) ≡ true → any_image full file ≡ Err InflatedTooLong
refused_long full file none whole loads is = front_refused full file InflatedTooLong (front_last full file true none whole loads is)

pub is_front : (full : Bool) (file : List ℕ) → option_or (header_fault file) (names_fault file) ≡ None → tables_fault full file ≡ None → loaded_fault file ≡ None → are_too_long (streams_by full file) ≡ false → front_fault full file ≡ None
is_front full file none whole loads is = front_last full file false none whole loads is

-- A reading of the tables stopped.
pub tables_stopped : {A B : Type 0} (P : A → Type 0) (Q : B → Type 0) (full : Bool) (file : List ℕ) (stop : Stop ElfFault) → MatchStop {A = A} (Err stop) P (λ fault. option_or (header_fault file) (names_fault file) ≡ Some fault) (Unit {0})
    → MatchStop {A = B} (Err stop) Q (λ fault. any_image full file ≡ Err fault) (Unit {0})
tables_stopped P Q full file (Fault fault) says = refused_tables full file fault says
tables_stopped P Q full file NoMemory says = tt

pub loaded_stopped : {A B : Type 0} (P : A → Type 0) (Q : B → Type 0) (full : Bool) (file : List ℕ) (stop : Stop ElfFault) → option_or (header_fault file) (names_fault file) ≡ None → tables_fault full file ≡ None → MatchStop {A = A} (Err stop) P (λ fault. loaded_fault file ≡ Some fault) (Unit {0})
    → MatchStop {A = B} (Err stop) Q (λ fault. any_image full file ≡ Err fault) (Unit {0})
loaded_stopped P Q full file (Fault fault) none whole says = refused_loaded full file fault none whole says
loaded_stopped P Q full file NoMemory none whole says = tt
