-- What a proof unfolds to compute the definitions of this crate where the input is written out.
use Rattle.std.specs.Prelude.{⊤}
use Rattle.clean_names.specs.Names.{skip, is_name}
use Rattle.clean_names.specs.Cleaning.{cleaned_upto, cleaned}

unfoldable pub clean_names_computes : ⊤
unfolding skip is_name cleaned_upto cleaned
clean_names_computes = tt
