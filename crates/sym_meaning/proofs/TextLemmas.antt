-- Looking up names in joined lists of records.
use Rattle.std.proofs.Common.{◌≡◌, ℕ, List, [], ◌∷◌, ◌++◌, refl}
use Rattle.std.specs.List.{find}
use Rattle.sym_records.specs.declared.line.SymLine.{SymLine}
use Rattle.sym_records.specs.declared.line.SymLine.TheVariants.{File, Origin, Func, Inline, Line}
use Rattle.sym_meaning.specs.Plain.{ArePlain, HaveNoFile, HaveNoOrigin}
use Rattle.sym_meaning.specs.TextNames.{under, text_func, is_file, is_origin}

-- Plain records in front of a FUNC are skipped.
pub func_behind : (front rest : List SymLine) (x : ℕ) → ArePlain front → text_func (front ++ rest) x ≡ text_func rest x
func_behind [] rest x plain = refl
func_behind (Func many address size params name ∷ front) rest x plain = absurd plain.0
func_behind (Inline level line file origin ranges ∷ front) rest x plain = absurd plain.0
func_behind (Line address size line file ∷ front) rest x plain = absurd plain.0
func_behind (s ∷ front) rest x plain = func_behind front rest x plain.1

-- A FUNC that plain records follow has no records under it.
pub none_under : (behind : List SymLine) → ArePlain behind → under behind ≡ []
none_under [] plain = refl
none_under (Func many address size params name ∷ behind) plain = absurd plain.0
none_under (Inline level line file origin ranges ∷ behind) plain = absurd plain.0
none_under (Line address size line file ∷ behind) plain = absurd plain.0
none_under (s ∷ behind) plain = refl

-- Records other than FILE are skipped.
pub file_behind : (front rest : List SymLine) (n : ℕ) → HaveNoFile front → find (is_file n) (front ++ rest) ≡ find (is_file n) rest
file_behind [] rest n none = refl
file_behind (File number name ∷ front) rest n none = absurd none.0
file_behind (s ∷ front) rest n none = file_behind front rest n none.1

-- Records other than INLINE_ORIGIN are skipped.
pub origin_behind : (front rest : List SymLine) (n : ℕ) → HaveNoOrigin front → find (is_origin n) (front ++ rest) ≡ find (is_origin n) rest
origin_behind [] rest n none = refl
origin_behind (Origin number name ∷ front) rest n none = absurd none.0
origin_behind (s ∷ front) rest n none = origin_behind front rest n none.1
