-- Worked examples of cleaned names.
use Rattle.std.proofs.Common.{◌≡◌, [], ◌∷◌, codes, refl}
use Rattle.sym_edges.proofs.Shown.{shown}
use Rattle.clean_names.proofs.Computing.{clean_names_computes}
use Rattle.clean_names.specs.Cleaning.{cleaned, cleaned_upto}

clean_plain : shown (cleaned (codes "main")) ≡ "main"
unfolding clean_names_computes shown
clean_plain = refl

clean_controls : shown (cleaned (codes "  a\tb\u{7f}\u{1f}~ ")) ≡ "a?b??~ "
unfolding clean_names_computes shown
clean_controls = refl

clean_lf_first : shown (cleaned (codes "\n a")) ≡ "? a"
unfolding clean_names_computes shown
clean_lf_first = refl

clean_spaces : shown (cleaned (codes "   ")) ≡ "<name omitted>"
unfolding clean_names_computes shown
clean_spaces = refl

clean_nothing : shown (cleaned (codes "")) ≡ "<name omitted>"
unfolding clean_names_computes shown
clean_nothing = refl

-- A name that is cut off.
cut_three : shown (cleaned_upto 3 (codes " abcd")) ≡ "abc"
unfolding clean_names_computes shown
cut_three = refl

cut_four : shown (cleaned_upto 4 (codes " abcd")) ≡ "abcd"
unfolding clean_names_computes shown
cut_four = refl

cut_five : shown (cleaned_upto 5 (codes " abcd")) ≡ "abcd"
unfolding clean_names_computes shown
cut_five = refl

cut_all : shown (cleaned_upto 0 (codes " abcd")) ≡ "<name omitted>"
unfolding clean_names_computes shown
cut_all = refl

-- A byte above ASCII stays.
clean_utf8 : cleaned (195 ∷ 169 ∷ []) ≡ 195 ∷ 169 ∷ []
unfolding clean_names_computes
clean_utf8 = refl
