-- Lists that a loop reads: the members that were read, followed by those still to be read.
use Rattle.std.proofs.Common.{◌≡◌, ◌<◌, List, [], ◌∷◌, ◌++◌, length, Option, None, Some, Result, Ok, Err, sym, ap, ◌∙◌}
use Rattle.leb_cursor.specs.Ahead.{Ahead}
use Rattle.leb_cursor.specs.Lists.{list_at, GoesOn}
use Rattle.leb_cursor.proofs.ListLemmas.{behind, none_behind, list_more, list_ends, list_refused, shorter_by}

-- The wanted list is the members that were read, followed by those still ahead; and each reading
-- goes on.
unfoldable pub Behind : {A E : Type 0} → (Ahead → Result (Option A × Ahead) E) → List A → Ahead → Result (List A × Ahead) E → Type 0
Behind read done c want = ((d : Ahead) → GoesOn d (read d)) × (behind done (list_at read c) ≡ want)

pub begins : {A E : Type 0} (read : Ahead → Result (Option A × Ahead) E) (done : List A) (c : Ahead) (want : Result (List A × Ahead) E) → ((d : Ahead) → GoesOn d (read d)) → done ≡ [] → list_at read c ≡ want → Behind read done c want
unfolding Behind
begins read done c want goes none is = (goes, none_behind done (list_at read c) none ∙ is)

pub goes_on : {A E : Type 0} (read : Ahead → Result (Option A × Ahead) E) (done more : List A) (x : A) (c d : Ahead) (want : Result (List A × Ahead) E) → Behind read done c want → Ok (Some x, d) ≡ read c → more ≡ done ++ x ∷ [] → Behind read more d want
unfolding Behind
goes_on read done more x c d want so_far is added = (so_far.0, sym (list_more read so_far.0 done more x c d is added) ∙ so_far.1)

pub ends : {A E : Type 0} (read : Ahead → Result (Option A × Ahead) E) (done : List A) (c d : Ahead) (next : Option A) (want : Result (List A × Ahead) E) → Behind read done c want → Ok (next, d) ≡ read c → next ≡ None → want ≡ Ok (done, d)
unfolding Behind
ends read done c d next want so_far is none = sym so_far.1 ∙ list_ends read so_far.0 done c d (ap (λ (x : Option _). Ok (x, d)) (sym none) ∙ is)

pub refuses : {A E : Type 0} (read : Ahead → Result (Option A × Ahead) E) (done : List A) (c : Ahead) (fault : E) (want : Result (List A × Ahead) E) → Behind read done c want → Err fault ≡ read c → want ≡ Err fault
unfolding Behind
refuses read done c fault want so_far is = sym so_far.1 ∙ list_refused read so_far.0 done c fault is

pub shorter : {A E : Type 0} (read : Ahead → Result (Option A × Ahead) E) (done : List A) (x : A) (c d : Ahead) (want : Result (List A × Ahead) E) → Behind read done c want → Ok (Some x, d) ≡ read c → length d.bytes < length c.bytes
unfolding Behind
shorter read done x c d want so_far is = shorter_by (read c) x c d (so_far.0 c) is
