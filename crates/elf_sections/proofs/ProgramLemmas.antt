use Rattle.std.proofs.Common.{◌≡◌, ℕ, suc, ◌+◌, ◌*◌, ◌==◌, true, false, List, ◌∷◌, refl, ◌∙◌, ap, add-one}
use Rattle.elf_sections.specs.ElfNumbers.{program_header_size, pt_load}
use Rattle.elf_sections.specs.Programs.{program_at, programs_from, loaded_address}

-- The first program header of those that are left.
programs_next : (file : List ℕ) (table k n : ℕ) → programs_from file table k (suc n) ≡ program_at file (table + program_header_size * k) ∷ programs_from file table (k + 1) n
unfolding programs_from
programs_next file table k n = refl

-- The first loaded segment gives the address.
pub address_found : (file : List ℕ) (table k n m : ℕ) → n ≡ m + 1 → ((program_at file (table + program_header_size * k)).kind == pt_load) ≡ true → loaded_address (programs_from file table k n) ≡ (program_at file (table + program_header_size * k)).address
unfolding loaded_address
address_found file table k n m is test =
    ap (λ j. loaded_address (programs_from file table k j)) (is ∙ add-one m) ∙ ap loaded_address (programs_next file table k m) ∙ rw test refl

pub address_passed : (file : List ℕ) (table k n m : ℕ) → n ≡ m + 1 → ((program_at file (table + program_header_size * k)).kind == pt_load) ≡ false → loaded_address (programs_from file table k n) ≡ loaded_address (programs_from file table (k + 1) m)
unfolding loaded_address
address_passed file table k n m is test =
    ap (λ j. loaded_address (programs_from file table k j)) (is ∙ add-one m) ∙ ap loaded_address (programs_next file table k m) ∙ rw test refl

none_left : (file : List ℕ) (table k : ℕ) → loaded_address (programs_from file table k 0) ≡ 0
unfolding loaded_address programs_from
none_left file table k = refl

pub address_none : (file : List ℕ) (table k n : ℕ) → n ≡ 0 → loaded_address (programs_from file table k n) ≡ 0
address_none file table k n is = ap (λ j. loaded_address (programs_from file table k j)) is ∙ none_left file table k
