-- The order words: each handle of a list without repeated slots has its place in the list, every other slot keeps its word.
-- Assumes nothing.
use Rattle.std.specs.Prelude.{Option, None, Some}
use mathlib.Core.Path.{◌≡◌, refl, sym, ap, ◌∙◌, subst}
use mathlib.Core.Bool.{Bool, cond}
use mathlib.Core.List.{List, [], ◌∷◌, map, Memᴰ}
use Prim.Native.Nat.{ℕ, suc, ◌+◌, ◌≤◌, ◌<◌}
use native.Mathlib.Omega.{arith}
use native.Mathlib.Decide.{ℕ_discrete}
use borrow.Author.Tests.{eq-eqb, ne_eqb, lt-ltb}
use lib.Dec.{eqb}
use lib.ListN.{length, get_or, set, length-set}
use lib.Seq.{get_or-set_same, get_or-set_other}
use Rattle.records.specs.Handles.{handle_index}
use Rattle.model.specs.Doc.{no_key}
use Rattle.model.specs.Edits.{keyed}
use Rattle.model.specs.Calls.{key_of}
use Rattle.model.specs.Tree.{position}
use Rattle.laws.proofs.Wf.{Distinct}
use Rattle.laws.proofs.SimEdits.{set-fits}
use Rattle.laws.proofs.Freeing.{slots_of}

pub length-keyed : (l words : List ℕ) (n : ℕ) → length (keyed words n l) ≡ length words
length-keyed [] words n = refl
length-keyed (h ∷ l) words n = length-keyed l (set words (handle_index h) n) (suc n) ∙ length-set words (handle_index h) n

pub keyed-other : (l words : List ℕ) (n i e : ℕ) → (Memᴰ i (slots_of l) → ⊥) → get_or (keyed words n l) i e ≡ get_or words i e
keyed-other [] words n i e m = refl
keyed-other (h ∷ l) words n i e m =
    keyed-other l (set words (handle_index h) n) (suc n) i e (λ q. m (Memᴰ.tail q))
    ∙ get_or-set_other words (handle_index h) i n e (λ q. m (Memᴰ.head q))

-- words stay within 32 bits
pub keyed-fits : (l words : List ℕ) (n : ℕ) → ((i : ℕ) → get_or words i 0 < 4294967296) → n + length l ≤ 4294967296 → (i : ℕ) → get_or (keyed words n l) i 0 < 4294967296
keyed-fits [] words n f sm i = f i
keyed-fits (h ∷ l) words n f sm i = keyed-fits l (set words (handle_index h) n) (suc n) (set-fits words (handle_index h) n (omega arith) f) (omega arith) i

-- ---- keys

abbrev first_of : Option ℕ → Option ℕ → Option ℕ
first_of None o = o
first_of (Some k) o = Some k

position-none : (n x : ℕ) (l : List ℕ) → (Memᴰ x l → ⊥) → position n x l ≡ None
position-none n x [] h = refl
position-none n x (y ∷ l) h = rw (ne_eqb y x (λ e. h (Memᴰ.head (sym e)))) (position-none (suc n) x l (λ m. h (Memᴰ.tail m)))

module _ (hs : ℕ → ℕ) (x : ℕ) where
  keyed-key : (l words : List ℕ) (n : ℕ) → Distinct l → ((y : ℕ) → Memᴰ y l → handle_index (hs y) ≡ handle_index (hs x) → y ≡ x)
      → handle_index (hs x) < length words → n + length l < no_key
      → key_of (get_or (keyed words n (map hs l)) (handle_index (hs x)) no_key) ≡ first_of (position n x l) (key_of (get_or words (handle_index (hs x)) no_key))
  keyed-key [] words n u inj lt sm = refl
  keyed-key (y ∷ l) words n u inj lt sm =
      go (keyed-key l (set words (handle_index (hs y)) n) (suc n) u.1 (λ z m. inj z (Memᴰ.tail m)) (simp length-set lt) (omega arith)) (ℕ_discrete y x)
    where
      i : ℕ
      i = handle_index (hs x)

      k : ℕ
      k = handle_index (hs y)

      go : key_of (get_or (keyed (set words k n) (suc n) (map hs l)) i no_key) ≡ first_of (position (suc n) x l) (key_of (get_or (set words k n) i no_key)) → Dec (y ≡ x)
          → key_of (get_or (keyed (set words k n) (suc n) (map hs l)) i no_key) ≡ first_of (cond (eqb y x) (Some n) (position (suc n) x l)) (key_of (get_or words i no_key))
      go ih (yes e) =
          let at : get_or (set words k n) i no_key ≡ n = ap (λ (z : ℕ). get_or (set words (handle_index (hs z)) n) i no_key) e ∙ get_or-set_same words i n no_key lt in
          let p : position (suc n) x l ≡ None = position-none (suc n) x l (λ m. u.0 (subst (λ (z : ℕ). Memᴰ z l) (sym e) m)) in
          let key-n : key_of n ≡ Some n = rw (lt-ltb n no_key (omega arith)) in
          ih
          ∙ ap (λ (o : Option ℕ). first_of o (key_of (get_or (set words k n) i no_key))) p
          ∙ ap key_of at
          ∙ key-n
          ∙ sym (ap (λ (q : Bool). first_of (cond q (Some n) (position (suc n) x l)) (key_of (get_or words i no_key))) (eq-eqb y x e))
      go ih (no m) =
          ih
          ∙ ap (λ (w : ℕ). first_of (position (suc n) x l) (key_of w)) (get_or-set_other words k i n no_key (λ e. m (inj y (Memᴰ.head refl) (sym e))))
          ∙ sym (ap (λ (q : Bool). first_of (cond q (Some n) (position (suc n) x l)) (key_of (get_or words i no_key))) (ne_eqb y x m))

  -- where no word was a key, the keys are the places
  pub keyed-position : (l words : List ℕ) → Distinct l → ((y : ℕ) → Memᴰ y l → handle_index (hs y) ≡ handle_index (hs x) → y ≡ x)
      → handle_index (hs x) < length words → length l < no_key → get_or words (handle_index (hs x)) no_key ≡ no_key
      → key_of (get_or (keyed words 0 (map hs l)) (handle_index (hs x)) no_key) ≡ position 0 x l
  keyed-position l words u inj lt sm none_yet = keyed-key l words 0 u inj lt (omega arith) ∙ ap (λ (w : ℕ). first_of (position 0 x l) (key_of w)) none_yet ∙ plain (position 0 x l)
    where
      plain : (o : Option ℕ) → first_of o (key_of no_key) ≡ o
      plain None = refl
      plain (Some k) = refl
