-- Worked examples: what `names` answers, given the bytes of the file.
use Rattle.std.proofs.Common.{◌≡◌, List, ℕ, [], ◌∷◌, codes, Option, None, Some, refl}
use Rattle.worked.proofs.ComputingSymbols.{symbols_compute}
use Rattle.worked.proofs.Plain.{plain_verdict}
use Rattle.worked.proofs.Small.{Told, told}

-- `names` on a symbol file.
unfoldable shown_as : Option (List ℕ) → Told
shown_as sym = told (plain_verdict (codes "names" ∷ codes "s" ∷ []) (λ name. sym))

-- A function, an inlined function and a public symbol are renamed. FILE, INFO and MODULE keep their
-- texts.
three_names : shown_as (Some (codes "MODULE Linux x86_64 0 _ZN1m17h0123456789abcdefE\nINFO CODE_ID 00\nFILE 0 _ZN1a17h0123456789abcdefE\nINLINE_ORIGIN 1 _ZN4core3fmt5write17h0123456789abcdefE\nFUNC m 1000 10 0 _ZN1a1b17h0123456789abcdefE\n1000 10 4 0\nPUBLIC 2000 0 _ZN10_$LT$T$GT$1f17h0123456789abcdefE\n"))
    ≡ Some (0, "MODULE Linux x86_64 0 _ZN1m17h0123456789abcdefE\nINFO CODE_ID 00\nFILE 0 _ZN1a17h0123456789abcdefE\nINLINE_ORIGIN 1 core::fmt::write\nFUNC m 1000 10 0 a::b\n1000 10 4 0\nPUBLIC 2000 0 <T>::f\n", "")
unfolding shown_as symbols_compute
three_names = refl

-- A name in Rust's current mangling is replaced. Names of other forms stay, and the text becomes
-- canonical.
other_names : shown_as (Some (codes "MODULE  Linux x86_64 0 a\r\nFUNC 01000 10 0 _Z1fv\nPUBLIC 2000 0 _RNvC1a1f\n")) ≡ Some (0, "MODULE Linux x86_64 0 a\nFUNC 1000 10 0 _Z1fv\nPUBLIC 2000 0 a::f\n", "")
unfolding shown_as symbols_compute
other_names = refl

-- A file in which a checker would find something is not refused.
found_names : shown_as (Some (codes "MODULE Linux x86_64 0 a\nFUNC 1000 0 0 _ZN1a17h0123456789abcdefE\n")) ≡ Some (0, "MODULE Linux x86_64 0 a\nFUNC 1000 0 0 a\n", "")
unfolding shown_as symbols_compute
found_names = refl

-- A file that is refused, and one that does not exist.
a_bad_file : shown_as (Some (codes "MODULE Linux x86_64 0 a\nFUNC x\n")) ≡ Some (1, "", "refused text hex line 2\n")
unfolding shown_as symbols_compute
a_bad_file = refl

no_file : shown_as None ≡ Some (3, "", "cannot read input\n")
unfolding shown_as symbols_compute
no_file = refl
