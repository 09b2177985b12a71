-- Whether two symbol files say the same at every address of 64 bits.
use Rattle.std.specs.Prelude.{◌≡◌, ℕ, ◌<◌, ◌^◌, List, None, Some}
use Rattle.sym_records.specs.declared.line.SymLine.{SymLine}
use Rattle.sym_judge.specs.Alike.{first_unlike}
use Rattle.sym_judge.specs.declared.ruling.Aspect.{Aspect}
use Rattle.sym_judge.specs.declared.ruling.Ruling.{Ruling}
use Rattle.sym_judge.specs.declared.ruling.Ruling.TheVariants.{Yes, No}

-- the files say the same at every address below an end
abbrev pub AreAlikeBelow : ℕ → List SymLine → List SymLine → Type 0
AreAlikeBelow end own other = (x : ℕ) → x < end → first_unlike own other x ≡ None

-- the least address at which the files differ, and the first aspect in which they differ there
pub record IsFirstUnlike (own other : List SymLine) (address : ℕ) (aspect : Aspect) : Type 0 where
  pub address_fits : address < 2 ^ 64
  pub differ : first_unlike own other address ≡ Some aspect
  pub alike_below : AreAlikeBelow address own other

abbrev pub IsRuling : List SymLine → List SymLine → Ruling → Type 0
IsRuling own other Yes = AreAlikeBelow (2 ^ 64) own other
IsRuling own other (No address aspect) = IsFirstUnlike own other address aspect
