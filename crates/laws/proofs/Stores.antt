-- What a new node brings: a pool and a name table that hold what it shows, everything else as it was, within the limits; from the Full tests.
-- Assumes nothing.
use Rattle.std.proofs.lemmas.Option.{none-some}
use Rattle.std.specs.Prelude.{Option, None, Some}
use mathlib.Core.Path.{◌≡◌, refl, sym, ap, ap₂, ◌∙◌, subst}
use mathlib.Core.Logic.{◌⊎◌, inl, inr}
use mathlib.Core.Bool.{Bool, true, false, ◌&&◌, cond}
use mathlib.Core.List.{List, [], ◌∷◌, Memᴰ}
use Prim.Native.Nat.{ℕ, ◌+◌, ◌≤◌, ◌<◌}
use native.Mathlib.Omega.{arith}
use borrow.Author.Tests.{leb-true}
use lib.Dec.{leb, ltb}
use lib.ListN.{length}
use Rattle.words.specs.Lists.{joined}
use Rattle.words.proofs.Tests.{and_left, and_right}
use Rattle.texts.specs.Pool.{Pool, bytes_of, text_at, stored_slot, stored, slots_for}
use Rattle.texts.proofs.Pool.{stored_same, stored-fits, stored-stored-fits}
use Rattle.names.specs.Table.{Name, name, entry_bytes, number_of, interned, name_at}
use Rattle.names.proofs.Table.{interned-number, interned-back, interned-old, interned-count, interned-fits}
use Rattle.model.specs.Kinds.{Kind, element, attribute, text, comment, namespace, instruction, names_of, texts_of}
use Rattle.model.specs.Doc.{Doc, or_else}
use Rattle.model.specs.Calls.{text_fits, name_fits_in, two_fit, with_two, stored_two}
use Rattle.model.specs.Rules.{slots_held}
use Rattle.model.specs.Tree.{Tree}
use Rattle.laws.proofs.Sim.{Sim}
use Rattle.laws.proofs.Shown.{shown_by, held-here}
use Rattle.laws.proofs.Repooled.{FreeOnce, free-texts, free-once, holds-none, Repooled, repooled-same, repooled-then, stored-repooled}

-- the pool and the names of a document after a call, within its limits
pub record PoolFits (d : Doc) (p : Pool) : Type 0 where
  pub texts : length p.texts ≤ d.limits.texts
  pub bytes : length (bytes_of p.texts) ≤ d.limits.text_bytes

pub record NamesKeep (d : Doc) (n : List (Option Name)) : Type 0 where
  pub grows : length d.names ≤ length n
  pub kept : (i : ℕ) → i < length d.names → name_at n i ≡ name_at d.names i
  pub names : length n ≤ d.limits.names
  pub bytes : length (joined entry_bytes n) ≤ d.limits.name_bytes

-- the pool p and the names n hold what the kind k shows as the tree's kind
pub record Stores (d : Doc) (k : Kind ℕ (Option ℕ)) (p : Pool) (n : List (Option Name)) (kind : Kind Name (List ℕ)) : Type 0 where
  pub pool : Repooled d.pool p [] (slots_held (texts_of k)) None
  pub pool_fits : PoolFits d p
  pub names : NamesKeep d n
  pub named : (i : ℕ) → Memᴰ i (names_of k) → i < length n
  pub shown : shown_by n p k ≡ kind

-- both tests of the limits
pub fits_both : (a m b n : ℕ) → (leb a m && leb b n) ≡ true → (a ≤ m) × (b ≤ n)
fits_both a m b n e = (leb-true a m (and_left (leb a m) (leb b n) e), leb-true b n (and_right (leb a m) (leb b n) e))

module _ (d : Doc) (t : Tree) (hs : ℕ → ℕ) (S : Sim d t hs) where
  pub free_in : FreeOnce d.pool
  free_in = free-once d t hs S.pool

  -- ---- names

  names_same : NamesKeep d d.names
  names_same = record { grows = omega arith; kept = λ i lt. refl; names = S.within.names; bytes = S.within.name_bytes }

  names-interned : (n : Name) → name_fits_in d n ≡ true → NamesKeep d (interned d.names n)
  names-interned n e =
      let f = fits_both (length (interned d.names n)) d.limits.names (length (joined entry_bytes (interned d.names n))) d.limits.name_bytes
      (sym (interned-fits d.names n d.limits.names d.limits.name_bytes S.within.names S.within.name_bytes) ∙ e) in
      record {
        grows = rw (interned-count d.names n) (more (ltb (number_of d.names n) (length d.names)));
        kept = interned-old d.names n;
        names = f.0;
        bytes = f.1;
      }
    where
      more : (found : Bool) → length d.names ≤ cond found (length d.names) (length d.names + 1)
      more true = omega arith
      more false = omega arith

  pair-back : (n : Name) → or_else (name [] []) (name_at (interned d.names n) (number_of d.names n)) ≡ n
  pair-back n = ap (or_else (name [] [])) (interned-back d.names n)

  number-there : (n : Name) (i : ℕ) → Memᴰ i (number_of d.names n ∷ []) → i < length (interned d.names n)
  number-there n i m = go (mathlib.Core.List.Memᴰ.cases_cons m)
    where
      go : (i ≡ number_of d.names n) ⊎ Memᴰ i [] → i < length (interned d.names n)
      go (inl e) = rw e (interned-number d.names n).1
      go (inr k) = absurd (mathlib.Core.List.Memᴰ.not-nil k)

  -- ---- texts

  one-text : (s : List ℕ) → Repooled d.pool (stored d.pool s) [] (slots_held (stored_slot d.pool s ∷ [])) None
  one-text s = stored-repooled d.pool s [] free_in (holds-none d.pool)

  pub one-fits : (s : List ℕ) → text_fits d (slots_for s) 0 (length s) ≡ true → PoolFits d (stored d.pool s)
  one-fits s e =
      let f = fits_both (length (stored d.pool s).texts) d.limits.texts (length (bytes_of (stored d.pool s).texts)) d.limits.text_bytes
      (sym (stored-fits d.limits.texts d.limits.text_bytes d.pool S.within.texts s (free-texts d.pool free_in)) ∙ e) in
      record { texts = f.0; bytes = f.1 }

  one-back : (s : List ℕ) → text_at (stored d.pool s) (stored_slot d.pool s) ≡ s
  one-back s = stored_same d.pool s (free-texts d.pool free_in)

  module _ (s u : List ℕ) where
    abbrev middle : Pool
    middle = stored d.pool s

    second : Repooled middle (stored middle u) (slots_held (stored_slot d.pool s ∷ [])) (slots_held (stored_slot d.pool s ∷ stored_slot middle u ∷ [])) None
    second = stored-repooled middle u (stored_slot d.pool s ∷ []) (one-text s).free (one-text s).holds

    two-texts : Repooled d.pool (stored middle u) [] (slots_held (stored_slot d.pool s ∷ stored_slot middle u ∷ [])) None
    two-texts =
        repooled-then d.pool middle (stored middle u) [] (slots_held (stored_slot d.pool s ∷ []))
        (slots_held (stored_slot d.pool s ∷ stored_slot middle u ∷ [])) (one-text s) second

    two_fits : two_fit d s u ≡ true → PoolFits d (stored middle u)
    two_fits e =
        let f = fits_both (length (stored middle u).texts) d.limits.texts (length (bytes_of (stored middle u).texts)) d.limits.text_bytes
        (sym (stored-stored-fits d.limits.texts d.limits.text_bytes d.pool S.within.texts s u (free-texts d.pool free_in) (free-texts middle (one-text s).free)) ∙ e) in
        record { texts = f.0; bytes = f.1 }

    -- the second store leaves the first text
    first_back : text_at (stored middle u) (stored_slot d.pool s) ≡ s
    first_back = go (stored_slot d.pool s) refl ∙ one-back s
      where
        go : (o : Option ℕ) → stored_slot d.pool s ≡ o → text_at (stored middle u) o ≡ text_at middle o
        go None e = refl
        go (Some x) e =
            let m : Memᴰ x (slots_held (stored_slot d.pool s ∷ [])) = held-here (stored_slot d.pool s) [] x e in
            second.same x ((one-text s).holds.inside x m) ((one-text s).holds.not_free x m) (λ q. absurd (none-some x q))

    second_back : text_at (stored middle u) (stored_slot middle u) ≡ u
    second_back = stored_same middle u (free-texts middle (one-text s).free)

  -- ---- the new nodes

  pub stores-element : (n : Name) → name_fits_in d n ≡ true → Stores d (element (number_of d.names n)) d.pool (interned d.names n) (element n)
  stores-element n e =
      record {
        pool = repooled-same d.pool [] free_in (holds-none d.pool);
        pool_fits = record { texts = S.within.texts; bytes = S.within.text_bytes };
        names = names-interned n e;
        named = number-there n;
        shown = ap element (pair-back n);
      }

  -- a node without a name
  unnamed : (k : Kind ℕ (Option ℕ)) (p : Pool) (kind : Kind Name (List ℕ)) → names_of k ≡ [] → Repooled d.pool p [] (slots_held (texts_of k)) None → PoolFits d p
      → shown_by d.names p k ≡ kind → Stores d k p d.names kind
  unnamed k p kind e R f q =
      record {
        pool = R;
        pool_fits = f;
        names = names_same;
        named = λ i m. absurd (mathlib.Core.List.Memᴰ.not-nil (subst (λ (l : List ℕ). Memᴰ i l) e m));
        shown = q;
      }

  pub stores-text : (s : List ℕ) → text_fits d (slots_for s) 0 (length s) ≡ true → Stores d (text (stored_slot d.pool s)) (stored d.pool s) d.names (text s)
  stores-text s e =
      unnamed (text (stored_slot d.pool s)) (stored d.pool s) (text s) refl (one-text s) (one-fits s e) (ap text (one-back s))

  pub stores-comment : (s : List ℕ) → text_fits d (slots_for s) 0 (length s) ≡ true
      → Stores d (comment (stored_slot d.pool s)) (stored d.pool s) d.names (comment s)
  stores-comment s e =
      unnamed (comment (stored_slot d.pool s)) (stored d.pool s) (comment s) refl (one-text s) (one-fits s e) (ap comment (one-back s))

  pub stores-instruction : (s u : List ℕ) → two_fit d s u ≡ true → Stores d (with_two d instruction s u) (stored_two d s u) d.names (instruction s u)
  stores-instruction s u e =
      unnamed (with_two d instruction s u) (stored_two d s u) (instruction s u) refl (two-texts s u) (two_fits s u e)
      (ap₂ instruction (first_back s u) (second_back s u))

  pub stores-namespace : (s u : List ℕ) → two_fit d s u ≡ true → Stores d (with_two d namespace s u) (stored_two d s u) d.names (namespace s u)
  stores-namespace s u e =
      unnamed (with_two d namespace s u) (stored_two d s u) (namespace s u) refl (two-texts s u) (two_fits s u e)
      (ap₂ namespace (first_back s u) (second_back s u))

  pub stores-attribute : (n : Name) (s : List ℕ) → name_fits_in d n ≡ true → text_fits d (slots_for s) 0 (length s) ≡ true
      → Stores d (attribute (number_of d.names n) (stored_slot d.pool s)) (stored d.pool s) (interned d.names n) (attribute n s)
  stores-attribute n s e f =
      record {
        pool = one-text s;
        pool_fits = one-fits s f;
        names = names-interned n e;
        named = number-there n;
        shown = ap₂ attribute (pair-back n) (one-back s);
      }
