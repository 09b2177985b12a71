-- The first fault of a supplementary file, before and after its compressed sections are inflated.
use Rattle.std.proofs.Common.{◌≡◌, ℕ, true, false, Bool, List, Option, None, Some, Result, Ok, Err, MatchResult, map, refl, sym, ap, ◌∙◌}
use Rattle.std.specs.Option.{option_or}
use Rattle.sym_edges.specs.Outside.{MatchStop}
use Rattle.sym_edges.specs.declared.fault.Stop.{Stop}
use Rattle.sym_edges.specs.declared.fault.Stop.TheVariants.{Fault, NoMemory}
use Rattle.sym_edges.specs.Results.{fault_if}
use Rattle.elf_sections.specs.FileHeader.{sup_header_fault}
use Rattle.elf_sections.specs.Sections.{names_fault}
use Rattle.elf_sections.specs.Image.{ImageParts, image_by, with_sections}
use Rattle.elf_sections.specs.Supplement.{sup_parts_of}
use Rattle.elf_sections.specs.declared.fault.ElfFault.{ElfFault}
use Rattle.elf_sections.specs.declared.fault.ElfFault.TheVariants.{InflatedTooLong}
use Rattle.full_image.specs.FullImage.{sections_fault, are_too_long, streams, outcome_of, outcomes_of, inflate_fault, full_sections}
use Rattle.full_image.specs.SupImage.{sup_fault, sup_image}
use Rattle.full_image.proofs.FrontLemmas.{same_answer}
use Rattle.full_image.specs.internal.SupFront.{sup_front_fault}

regrouped : {F : Type 0} (h n s t i : Option F) → option_or h (option_or n (option_or s (option_or t i))) ≡ option_or (option_or h (option_or n (option_or s t))) i
regrouped (Some h) n s t i = refl
regrouped None (Some n) s t i = refl
regrouped None None (Some s) t i = refl
regrouped None None None t i = refl

paired : {F : Type 0} (h n r : Option F) → option_or h (option_or n r) ≡ option_or (option_or h n) r
paired (Some h) n r = refl
paired None n r = refl

fault_is : (file : List ℕ) → sup_fault file ≡ option_or (sup_front_fault file) (inflate_fault (map outcome_of (streams file)))
unfolding sup_fault sup_front_fault
fault_is file = regrouped (sup_header_fault file) (names_fault file) (sections_fault file) (fault_if (are_too_long (streams file)) InflatedTooLong None) (inflate_fault (map outcome_of (streams file)))

front_is : (file : List ℕ) → sup_front_fault file ≡ option_or (option_or (sup_header_fault file) (names_fault file)) (option_or (sections_fault file) (fault_if (are_too_long (streams file)) InflatedTooLong None))
unfolding sup_front_fault
front_is file = paired (sup_header_fault file) (names_fault file) (option_or (sections_fault file) (fault_if (are_too_long (streams file)) InflatedTooLong None))

refused : (file : List ℕ) (fault : ElfFault) → sup_front_fault file ≡ Some fault → sup_image file ≡ Err fault
unfolding sup_image
refused file fault is =
    ap (λ f. image_by f (with_sections (full_sections file) (sup_parts_of file)))
    (fault_is file ∙ ap (λ f. option_or f (inflate_fault (map outcome_of (streams file)))) is)

-- The image with the inflated sections.
opened_sup : (file : List ℕ) (outcomes : List (Option (List ℕ))) → sup_front_fault file ≡ None → outcomes ≡ outcomes_of (record { full = true; file = file })
    → sup_image file ≡ image_by (inflate_fault outcomes) (with_sections (full_sections file) (sup_parts_of file))
unfolding sup_image outcomes_of
opened_sup file outcomes is are =
    ap (λ f. image_by f (with_sections (full_sections file) (sup_parts_of file)))
    (fault_is file ∙ ap (λ f. option_or f (inflate_fault (map outcome_of (streams file)))) is ∙ ap inflate_fault (sym are))

refused_tables : (file : List ℕ) (fault : ElfFault) → option_or (sup_header_fault file) (names_fault file) ≡ Some fault → sup_image file ≡ Err fault
refused_tables file fault is =
    refused file fault (front_is file ∙ ap (λ o. option_or o (option_or (sections_fault file) (fault_if (are_too_long (streams file)) InflatedTooLong None))) is)

behind_tables : (file : List ℕ) → option_or (sup_header_fault file) (names_fault file) ≡ None → sup_front_fault file ≡ option_or (sections_fault file) (fault_if (are_too_long (streams file)) InflatedTooLong None)
behind_tables file none = front_is file ∙ ap (λ o. option_or o (option_or (sections_fault file) (fault_if (are_too_long (streams file)) InflatedTooLong None))) none

pub refused_cut : (file : List ℕ) (fault : ElfFault) → option_or (sup_header_fault file) (names_fault file) ≡ None → sections_fault file ≡ Some fault → sup_image file ≡ Err fault
refused_cut file fault none is =
    refused file fault (behind_tables file none ∙ ap (λ o. option_or o (fault_if (are_too_long (streams file)) InflatedTooLong None)) is)

by_length : (file : List ℕ) (long : Bool) → option_or (sup_header_fault file) (names_fault file) ≡ None → sections_fault file ≡ None → are_too_long (streams file) ≡ long → sup_front_fault file ≡ fault_if long InflatedTooLong None
by_length file long none whole is =
    behind_tables file none ∙ ap (λ o. option_or o (fault_if (are_too_long (streams file)) InflatedTooLong None)) whole ∙ ap (λ b. fault_if b InflatedTooLong None) is

pub refused_long : (file : List ℕ) → option_or (sup_header_fault file) (names_fault file) ≡ None → sections_fault file ≡ None → are_too_long (streams file) ≡ true → sup_image file ≡ Err InflatedTooLong
refused_long file none whole is = refused file InflatedTooLong (by_length file true none whole is)

pub is_front : (file : List ℕ) → option_or (sup_header_fault file) (names_fault file) ≡ None → sections_fault file ≡ None → are_too_long (streams file) ≡ false → sup_front_fault file ≡ None
is_front file none whole is = by_length file false none whole is

-- A reading of the tables stopped.
pub tables_stopped : {A B : Type 0} (P : A → Type 0) (Q : B → Type 0) (file : List ℕ) (stop : Stop ElfFault) → MatchStop {A = A} (Err stop) P (λ fault. option_or (sup_header_fault file) (names_fault file) ≡ Some fault) (Unit {0})
    → MatchStop {A = B} (Err stop) Q (λ fault. sup_image file ≡ Err fault) (Unit {0})
tables_stopped P Q file (Fault fault) says = refused_tables file fault says
tables_stopped P Q file NoMemory says = tt

pub unpacked_sup : (self file : List ℕ) (plain : ImageParts) (outcomes : List (Option (List ℕ))) (answer : Result ImageParts ElfFault) → file ≡ self → sup_front_fault file ≡ None → plain ≡ sup_parts_of file → outcomes ≡ outcomes_of (record { full = true; file = self })
    → MatchResult answer (λ i. image_by (inflate_fault outcomes) (with_sections (full_sections file) plain) ≡ Ok i) (λ fault. image_by (inflate_fault outcomes) (with_sections (full_sections file) plain) ≡ Err fault)
    → MatchResult answer (λ i. sup_image self ≡ Ok i) (λ fault. sup_image self ≡ Err fault)
unpacked_sup self file plain outcomes answer view front loaded are says =
    same_answer (sup_image self) (image_by (inflate_fault outcomes) (with_sections (full_sections file) plain)) answer
    (sym (ap sup_image view) ∙ opened_sup file outcomes front (are ∙ sym (ap (λ f. outcomes_of (record { full = true; file = f })) view))
    ∙ ap (λ (p : ImageParts). image_by (inflate_fault outcomes) (with_sections (full_sections file) p)) (sym loaded)) says
