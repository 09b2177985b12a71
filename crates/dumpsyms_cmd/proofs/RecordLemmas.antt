use Rattle.std.proofs.Common.{◌≡◌, ℕ, ◌+◌, ◌≤◌, List, [], ◌∷◌, ◌++◌, true, length, codes, sym, ◌∙◌, ap, arith, length-append, append_assoc, append-nil, Option, None, Some}
use Rattle.std.specs.Str.Parse.{AllDigits}
use Rattle.sym_records.specs.Fields.{is_field, is_name}
use Rattle.sym_records.specs.Canon.{canon, canon_text}
use Rattle.sym_records.specs.Reading.{fits}
use Rattle.sym_records.specs.Validity.{fields_fit, first_bad}
use Rattle.sym_records.specs.declared.place.Place.TheVariants.{Start}
use Rattle.sym_records.specs.declared.line.SymLine.{SymLine}
use Rattle.sym_records.specs.declared.line.SymLine.TheVariants.{Module, Info}
use Rattle.sym_records.proofs.MakingLemmas.{digits_field, module_fits, info_fits, code_id_name, first_fits}
use Rattle.dumpsyms_cmd.specs.commands.Dump.{module_line, info_line, info_lines}
use Rattle.dumpsyms_cmd.specs.internal.Spelled.{FitsInside}
use Rattle.sym_records.proofs.MakingLemmas.{push_fits}

-- The MODULE record of the binary is valid.
pub module_valid : (os arch id name : List ℕ) → os ≡ codes "Linux" → arch ≡ codes "x86_64" → length id ≡ 33 → AllDigits 16 id → is_name name ≡ true → length name ≤ 65536 → fields_fit (Module (record { os = os; arch = arch; id = id; name = name })) ≡ true
unfolding is_field
module_valid os arch id name first second len digits named short =
    module_fits (record { os = os; arch = arch; id = id; name = name }) (ap is_field first) (ap is_field second) (digits_field id (omega arith) digits) named
    (omega (arith, ap length first, ap length second))

length_code : (ds : List ℕ) → length (codes "CODE_ID " ++ ds) ≡ 8 + length ds
length_code ds = length-append (codes "CODE_ID ") ds

-- The INFO record of a build id is valid.
pub info_valid : (text ds : List ℕ) → text ≡ codes "CODE_ID " ++ ds → AllDigits 16 ds → length ds ≤ 128 → fields_fit (Info text) ≡ true
info_valid text ds is digits short =
    ap (λ t. fields_fit (Info t)) is ∙ info_fits (codes "CODE_ID " ++ ds) (code_id_name ds digits) (omega (arith, length_code ds))

-- The records of the binary and of its build id.
pub module_alone : (identity : List ℕ) (name : List ℕ) (id : Option (List ℕ)) (old text : List ℕ) → id ≡ None → text ≡ old ++ canon (module_line identity name) → text ≡ old ++ canon_text (module_line identity name ∷ info_lines id)
unfolding canon_text
module_alone identity name id old text none is = is ∙ ap (λ t. old ++ t) (sym (append-nil (canon (module_line identity name)))) ∙ ap (λ o. old ++ canon_text (module_line identity name ∷ info_lines o)) (sym none)

pub module_and_info : (identity : List ℕ) (name bytes : List ℕ) (id : Option (List ℕ)) (old first text : List ℕ) → id ≡ Some bytes → first ≡ old ++ canon (module_line identity name) → text ≡ first ++ canon (info_line bytes) → text ≡ old ++ canon_text (module_line identity name ∷ info_lines id)
unfolding canon_text
module_and_info identity name bytes id old first text some begun is =
    is ∙ ap (λ t. t ++ canon (info_line bytes)) begun ∙ append_assoc old (canon (module_line identity name)) (canon (info_line bytes))
    ∙ ap (λ t. old ++ (canon (module_line identity name) ++ t)) (sym (append-nil (canon (info_line bytes)))) ∙ ap (λ o. old ++ canon_text (module_line identity name ∷ info_lines o)) (sym some)

pub module_fits_first : (line : SymLine) (id : Option (List ℕ)) → id ≡ None → fits Start line ≡ true → fields_fit line ≡ true → first_bad (line ∷ info_lines id) ≡ None
module_fits_first line id none first fit = ap (λ o. first_bad (line ∷ info_lines o)) none ∙ first_fits line first fit

pub info_fits_behind : (line : SymLine) (bytes : List ℕ) (id : Option (List ℕ)) → id ≡ Some bytes → fits Start line ≡ true → fields_fit line ≡ true → FitsInside (info_line bytes) → first_bad (line ∷ info_lines id) ≡ None
info_fits_behind line bytes id some first fit behind = ap (λ o. first_bad (line ∷ info_lines o)) some ∙ push_fits (line ∷ []) (info_line bytes) (first_fits line first fit) behind.0 behind.1
