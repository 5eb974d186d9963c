-- The walk written into a lent list, step by step.
-- Assumes nothing.
use Rattle.std.specs.Prelude.{Some, None, Ok, Err, Option}
use mathlib.Core.Path.{◌≡◌, refl, sym, ap, ◌∙◌}
use mathlib.Core.Bool.{Bool, true, false}
use mathlib.Core.List.{List, [], ◌∷◌, ◌++◌, append-nil, append_assoc}
use Prim.Native.Nat.{ℕ, suc, ◌+◌, ◌-◌, ◌≤◌, ◌<◌, min}
use native.Mathlib.Omega.{arith}
use borrow.Author.Tests.{lt-ltb}
use lib.ListN.{length, set, length-append}
use Rattle.words.specs.Parts.{put}
use Rattle.words.proofs.Parts.{put-nil, set-put-after}
use Rattle.model.specs.declared.Refusal.{Refusal}
use Rattle.model.specs.declared.Refusal.TheVariants.{BadBuffers}
use Rattle.model.specs.Doc.{Doc, resolves}
use Rattle.layout.specs.declared.Document.{Document}
use Rattle.memory.specs.Decode.{decode}
use Rattle.reading.specs.Contract.{nodes_ok}
use Rattle.steps.specs.declared.position.Position.{Position}
use Rattle.steps.specs.Next.{successor, next, start}
use Rattle.descendants.specs.Walking.{listed, list_from, walked}
use Rattle.descendants.specs.Contract.{count_below, written_below}
use Rattle.descendants.proofs.Anywhere.{next-tells, from-stale}

-- a step from a node that resolves
live-next : (D : Doc) (p : Position) → 0 < min p.left D.limits.nodes → resolves D p.node ≡ true → next D p ≡ successor D p
live-next D p h r = rw (lt-ltb 0 (min p.left D.limits.nodes) h, r)

module _ (D : Doc) (all out₀ : List ℕ) where
  abbrev n : ℕ
  n = D.limits.nodes

  -- what is written, and what the steps from here on are still to list
  pub record Listing (at : Position) (count : ℕ) (out : List ℕ) : Type 0 where
    pub so_far : List ℕ
    pub counted : length so_far ≡ count
    pub written : out ≡ put 0 so_far out₀
    pub rest : all ≡ so_far ++ list_from (n - count) D at
    pub lives : resolves D at.node ≡ true
    pub left : at.left ≡ n - count

  pub listing_start : (h : ℕ) → resolves D h ≡ true → all ≡ walked D h → (at : Position) → at ≡ start n h → Listing at 0 out₀
  listing_start h r e at f =
      record {
        so_far = [];
        counted = refl;
        written = sym (put-nil out₀ 0 []);
        rest = e ∙ ap (list_from n D) (sym f) ∙ ap (λ (k : ℕ). list_from k D at) none_yet;
        lives = ap (λ (p : Position). resolves D p.node) f ∙ r;
        left = ap (λ (p : Position). p.left) f ∙ none_yet;
      }
    where
      none_yet : n ≡ n - 0
      none_yet = omega arith

  module _ {at : Position} {count : ℕ} {out : List ℕ} (L : Listing at count out) where
    -- nothing is left
    done : list_from (n - count) D at ≡ [] → (count ≡ length all) × (out ≡ put 0 all out₀)
    done e =
        let q : all ≡ L.so_far = L.rest ∙ ap (λ (l : List ℕ). L.so_far ++ l) e ∙ append-nil L.so_far in
        (sym L.counted ∙ ap length (sym q), L.written ∙ ap (λ (l : List ℕ). put 0 l out₀) (sym q))

    module _ (h : count < n) where
      pub listing-may : 0 < min at.left n
      listing-may = omega (arith, h, L.left)

      module _ (w : Option Position) (e : w ≡ successor D at) where
        went : next D at ≡ w
        went = live-next D at listing-may L.lives ∙ sym e

        go_on : list_from (n - count) D at ≡ listed (λ q. list_from (n - (count + 1)) D q) w
        go_on = ap (λ (k : ℕ). list_from k D at) (let z : n - count ≡ suc (n - (count + 1)) = omega arith in z) ∙ ap (listed (λ q. list_from (n - (count + 1)) D q)) went

        pub listing-ends : w ≡ None → (count ≡ length all) × (out ≡ put 0 all out₀)
        listing-ends f = done (go_on ∙ ap (listed (λ q. list_from (n - (count + 1)) D q)) f)

        pub listing-turn : (q : Position) → w ≡ Some q → n ≤ length out₀ → Listing q (count + 1) (set out count q.node)
        listing-turn q f room =
            let t = next-tells D at q (went ∙ f) in
            record {
              so_far = L.so_far ++ (q.node ∷ []);
              counted = length-append L.so_far (q.node ∷ []) ∙ ap (λ (k : ℕ). k + 1) L.counted;
              written =
                  ap (λ (l : List ℕ). set l count q.node) L.written
                  ∙ ap (λ (k : ℕ). set (put 0 L.so_far out₀) k q.node) (let z : count ≡ 0 + length L.so_far = omega (arith, L.counted) in z)
                  ∙ set-put-after out₀ 0 L.so_far q.node (omega (arith, L.counted));
              rest =
                  L.rest ∙ ap (λ (l : List ℕ). L.so_far ++ l) (go_on ∙ ap (listed (λ q. list_from (n - (count + 1)) D q)) f)
                  ∙ sym (append_assoc L.so_far (q.node ∷ []) (list_from (n - (count + 1)) D q));
              lives = t.0;
              left = omega (arith, t.1, L.left, h);
            }

-- a handle that went through a word
pub same-written : (D : Doc) (h z : ℕ) → z ≡ h → (n : ℕ) (out after : List ℕ) → (n ≡ length (walked D z)) × (after ≡ put 0 (walked D z) out)
    → (n ≡ length (walked D h)) × (after ≡ put 0 (walked D h) out)
same-written D h z e n out after w = (w.0 ∙ ap (λ (x : ℕ). length (walked D x)) e, w.1 ∙ ap (λ (x : ℕ). put 0 (walked D x) out) e)

-- below a handle that is stale nothing is written
pub stale-written : (D : Doc) (h : ℕ) (t : Bool) → t ≡ resolves D h → t ≡ false → (out : List ℕ) → (0 ≡ length (walked D h)) × (out ≡ put 0 (walked D h) out)
stale-written D h t e f out =
    let w : walked D h ≡ [] = from-stale D h (sym e ∙ f) D.limits.nodes in
    (sym (ap length w), sym (ap (λ (l : List ℕ). put 0 l out) w ∙ put-nil out 0 []))

-- ---- the call

module _ (d : Document) (mem : List ℕ) (h : ℕ) (out : List ℕ) where
  pub list-refused : (why : Refusal) → (nodes_ok d mem out ≡ false) × (why ≡ BadBuffers) → (Err why ≡ count_below d mem h out) × (out ≡ written_below d mem h out)
  unfolding count_below written_below
  list-refused why f = (rw (f.0, f.1) refl, rw f.0 refl)

  pub list_written : nodes_ok d mem out ≡ true → (n : ℕ) (after : List ℕ) → (n ≡ length (walked (decode d mem) h)) × (after ≡ put 0 (walked (decode d mem) h) out)
      → (Ok n ≡ count_below d mem h out) × (after ≡ written_below d mem h out)
  unfolding count_below written_below
  list_written y n after w = (rw (y, w.0) refl, w.1 ∙ sym (rw y))
