-- Files that are copies say the same. The lemmas are for `copies::is_same_field`, `copies::is_copy`
-- and `judgement::judge`.
use Rattle.std.proofs.Common.{◌≡◌, Bool, true, false, List, refl, sym, ap, subst, ◌∙◌}
use Rattle.std.specs.Bool.{OnTrue}
use Rattle.sym_records.proofs.ListedLemmas.{fields_tell}
use Rattle.sym_records.specs.declared.line.SymLine.{SymLine}
use Rattle.sym_records.specs.Listed.{Said, fields}
use Rattle.sym_records.specs.Records.{keyword}
use Rattle.sym_judge.specs.Rulings.{IsRuling}
use Rattle.sym_judge.specs.declared.ruling.Ruling.TheVariants.{Yes}
use Rattle.sym_judge.proofs.LawLemmas.{yes_of_itself}

-- What two fields of one kind say.
pub said_alike : {A : Type 0} (same : Bool) (make : A → Said) (x y : A) (a b : Said) → a ≡ make x → b ≡ make y → (same ≡ true → x ≡ y) → OnTrue same (a ≡ b)
said_alike true make x y a b p q tells = p ∙ ap make (tells refl) ∙ sym q
said_alike false make x y a b p q tells = tt

pub same_records : (a b : SymLine) → keyword a ≡ keyword b → fields a ≡ fields b → a ≡ b
same_records = fields_tell

pub copies_alike : (own other : List SymLine) → own ≡ other → IsRuling own other Yes
copies_alike own other is = subst (λ lines. IsRuling own lines Yes) is (yes_of_itself own)
