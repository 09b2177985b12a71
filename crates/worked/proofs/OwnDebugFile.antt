-- A file that is its own debug file.
use Rattle.std.proofs.Common.{◌≡◌, ◌↔◌, ℕ, Bool, true, false, List, Option, None, Some, IsSome, Result, Ok, Err, length, nat_lt, refl, sym, ◌∙◌, ap, subst}
use Rattle.std.proofs.lemmas.Slice.Eq.{bytes_eq-Decides}
use Rattle.sym_edges.specs.Outside.{Files}
use Rattle.sym_edges.specs.Results.{unless}
use Rattle.elf_sections.specs.Image.{ImageParts, DebugSections, parts_of, image_fault, image_by, image, with_sections}
use Rattle.elf_sections.specs.declared.fault.ElfFault.{ElfFault}
use Rattle.elf_sections.specs.Pair.{paired}
use Rattle.full_image.specs.FullImage.{full_sections, full_fault, full_image, any_image}
use Rattle.elf_sections.proofs.PairLemmas.{paired_with_itself}
use Rattle.debug_pair.specs.Pairing.{pair_fault, pair_by, pair_of}
use Rattle.debug_pair.specs.SupLink.{SupLink, sup_link}
use Rattle.debug_pair.specs.declared.fault.PairFault.{PairFault}
use Rattle.debug_pair.specs.declared.fault.PairFault.TheVariants.{BuildId}
use Rattle.debug_pair.specs.declared.fault.SupFault.{SupFault}
use Rattle.dumpsyms_cmd.specs.Refusals.{elf_line, debug_elf_line, pair_line}
use Rattle.dumpsyms_cmd.specs.Verdict.{Verdict, LIMIT}
use Rattle.dumpsyms_cmd.specs.Words.{dump, module_name}
use Rattle.dumpsyms_cmd.specs.ElfInput.{DebugFile, ElfSource, or_refused, unless_longer, file_image, path_of, sup_place, with_sup_file, then_path, with_link, then_sup, then_link, then_pair, file_pair, with_file, then_debug, given_image}
use Rattle.dumpsyms_cmd.specs.commands.Dump.{IsDumpVerdict}
use Rattle.dumpsyms_cmd.specs.Answers.{IsVerdict}
use Rattle.worked.specs.OwnLink.{LeadsAlike}

-- The build ids of the pair are equal, so there is no fault.
no_fault : (id : Option (List ℕ)) → IsSome id → pair_fault id id ≡ None
no_fault None some = absurd (cc)
no_fault (Some id) some = ap (λ (b : Bool). unless b BuildId) ((bytes_eq-Decides id id).1 refl)

-- The image of the pair is that of the file.
made_of : (fault : Option ElfFault) (made parts : ImageParts) → image_by fault made ≡ Ok parts → made ≡ parts
made_of None made parts is = cc
made_of (Some fault) made parts is = absurd (cc)

-- The same with other sections of debugging information.
paired_too : (debug : DebugSections) (made : ImageParts) → paired made made ≡ made → paired (with_sections debug made) (with_sections debug made) ≡ with_sections debug made
unfolding paired with_sections
paired_too debug made is = ap (with_sections debug) is

paired_of : (full : Bool) (file : List ℕ) (parts : ImageParts) → any_image full file ≡ Ok parts → paired parts parts ≡ parts
unfolding image full_image
paired_of true file parts is =
    let made : ImageParts = with_sections (full_sections file) (parts_of file) in
    subst (λ (p : ImageParts). paired p p ≡ p) (made_of (full_fault file) made parts is) (paired_too (full_sections file) (parts_of file) (paired_with_itself file))
paired_of false file parts is = subst (λ (p : ImageParts). paired p p ≡ p) (made_of (image_fault file) (parts_of file) parts is) (paired_with_itself file)

own_pair : (full : Bool) (file : List ℕ) (parts : ImageParts) → any_image full file ≡ Ok parts → IsSome parts.build_id → pair_of parts parts ≡ Ok parts
own_pair full file parts is some = ap (λ (f : Option PairFault). pair_by f (paired parts parts)) (no_fault parts.build_id some) ∙ ap Ok (paired_of full file parts is)

-- The file with itself as its debug file, and the file alone.
abbrev own : Bool → List ℕ → Option DebugFile → ElfSource
own full elf debug = record { full = full; elf = elf; debug = debug }

-- The file as its own debug file, if it does not exceed the limit.
own_file : (full : Bool) (elf path file : List ℕ) (debug : Option DebugFile) (files : Files) (parts : ImageParts) → files path ≡ Some file → nat_lt LIMIT (length file) ≡ false → any_image full file ≡ Ok parts → IsSome parts.build_id → file_pair (own full elf debug) parts path files ≡ Ok parts
own_file full elf path file debug files parts there few is some =
    ap (λ (o : Option (List ℕ)). then_pair parts (file_image full debug_elf_line path o)) there
    ∙ ap (λ (b : Bool). then_pair parts (unless_longer b (or_refused debug_elf_line (any_image full file)))) few
    ∙ ap (λ (r : Result ImageParts ElfFault). then_pair parts (or_refused debug_elf_line r)) is
    ∙ ap (or_refused {A = ImageParts} pair_line) (own_pair full file parts is some)

-- A link that is followed from either name leads to the same place.
same_link : (elf path : List ℕ) (debug : DebugFile) (files : Files) (parts : ImageParts) (link : Result (Option SupLink) SupFault) → ((l : SupLink) → link ≡ Ok (Some l) → sup_place (Some debug) path l ≡ sup_place None elf l) → with_link (own true elf (Some debug)) path parts link files ≡ with_link (own true elf None) elf parts link files
same_link elf path debug files parts (Ok None) alike = refl
same_link elf path debug files parts (Ok (Some l)) alike = ap (λ (found : Result (List ℕ) Verdict). then_path (with_sup_file true parts l) found files) (alike l refl)
same_link elf path debug files parts (Err fault) alike = refl

same_sup : (full : Bool) (elf path : List ℕ) (debug : DebugFile) (files : Files) (parts : ImageParts) → LeadsAlike full elf path debug parts → then_sup (own full elf (Some debug)) path parts files ≡ then_sup (own full elf None) elf parts files
same_sup true elf path debug files parts alike = same_link elf path debug files parts (sup_link parts) (alike refl)
same_sup false elf path debug files parts alike = refl

own_by : (long full : Bool) (elf file path : List ℕ) (debug : DebugFile) (files : Files) (parts : ImageParts) → nat_lt LIMIT (length file) ≡ long → any_image full file ≡ Ok parts → IsSome parts.build_id → path_of debug parts ≡ Ok path → files path ≡ Some file → LeadsAlike full elf path debug parts
    → then_debug (own full elf (Some debug)) (unless_longer long (or_refused elf_line (any_image full file))) files ≡ then_debug (own full elf None) (unless_longer long (or_refused elf_line (any_image full file))) files
own_by true full elf file path debug files parts length_is is some place there alike = refl
own_by false full elf file path debug files parts length_is is some place there alike =
    let one = own full elf (Some debug) in
    ap (λ (r : Result ImageParts ElfFault). then_debug one (or_refused elf_line r) files) is
    ∙ ap (λ (found : Result (List ℕ) Verdict). then_path (with_file one parts) found files) place
    ∙ ap (λ (r : Result ImageParts Verdict). then_link one path r files) (own_file full elf path file (Some debug) files parts there length_is is some)
    ∙ same_sup full elf path debug files parts alike
    ∙ sym (ap (λ (r : Result ImageParts ElfFault). then_debug (own full elf None) (or_refused elf_line r) files) is)

own_image : (full : Bool) (elf file path : List ℕ) (debug : DebugFile) (files : Files) (parts : ImageParts) → files elf ≡ Some file → any_image full file ≡ Ok parts → IsSome parts.build_id → path_of debug parts ≡ Ok path → files path ≡ Some file → LeadsAlike full elf path debug parts → given_image (own full elf (Some debug)) files ≡ given_image (own full elf None) files
own_image full elf file path debug files parts here is some place there alike =
    ap (λ (o : Option (List ℕ)). then_debug (own full elf (Some debug)) (file_image full elf_line elf o) files) here
    ∙ own_by (nat_lt LIMIT (length file)) full elf file path debug files parts refl is some place there alike
    ∙ sym (ap (λ (o : Option (List ℕ)). then_debug (own full elf None) (file_image full elf_line elf o) files) here)

pub own_debug_file : (full : Bool) (elf file path : List ℕ) (debug : DebugFile) (workers : ℕ) (files : Files) (missed : List (List ℕ)) (parts : ImageParts) (v : Verdict) → files elf ≡ Some file → any_image full file ≡ Ok parts → IsSome parts.build_id → path_of debug parts ≡ Ok path → files path ≡ Some file → LeadsAlike full elf path debug parts
    → IsVerdict (Some (dump (own full elf (Some debug)) workers)) files missed v ↔ IsVerdict (Some (dump (own full elf None) workers)) files missed v
own_debug_file full elf file path debug workers files missed parts v here is some place there alike =
    let same : given_image (own full elf (Some debug)) files ≡ given_image (own full elf None) files = own_image full elf file path debug files parts here is some place there alike in (
      λ given. subst (λ (r : Result ImageParts Verdict). IsDumpVerdict full r (module_name elf) v) same given,
      λ given. subst (λ (r : Result ImageParts Verdict). IsDumpVerdict full r (module_name elf) v) (sym same) given,
    )
