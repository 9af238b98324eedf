-- The text of a record, by its form and its name.
use Rattle.std.proofs.Common.{◌≡◌, List, ℕ, Result, Ok, Err, refl}
use Rattle.pdb.specs.Error.{Error}
use Rattle.pdb.specs.Refusal.{◌>>=◌}
use Rattle.pdb.specs.Data.{Data}
use Rattle.pdb.specs.Forms.{record_at}
use Rattle.pdb.specs.Headings.{Titled, title_of, heading_at}
use Rattle.pdb_list.specs.Texts.{title_text, refused_text, record_text}

told : (r : Result Data Error) (t : Titled) → (r >>= (λ d. Ok (title_of d))) ≡ Ok t → record_text r ≡ title_text t
told (Ok d) t h = let same : title_of d ≡ t = cc in rw (← same) refl
told (Err e) t h = absurd cc

refused : (r : Result Data Error) (e : Error) → (r >>= (λ d. Ok (title_of d))) ≡ Err e → record_text r ≡ refused_text e
refused (Ok d) e h = absurd cc
refused (Err x) e h = let same : x ≡ e = cc in rw same refl

pub text_of_title : (b : List ℕ) (t : Titled) → heading_at b ≡ Ok t → record_text (record_at b) ≡ title_text t
text_of_title b t h = told (record_at b) t h

pub text_of_refusal : (b : List ℕ) (e : Error) → heading_at b ≡ Err e → record_text (record_at b) ≡ refused_text e
text_of_refusal b e h = refused (record_at b) e h
