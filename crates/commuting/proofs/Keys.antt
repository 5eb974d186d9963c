-- Two documents that stand for one tree by the same handles have equal order keys.
-- Assumes nothing.
use Rattle.std.proofs.lemmas.Option.{none-some}
use Rattle.std.specs.Prelude.{None}
use mathlib.Core.Path.{◌≡◌, refl, sym, ap, ◌∙◌, subst}
use mathlib.Core.Bool.{Bool, true, false}
use mathlib.Core.List.{List}
use Prim.Native.Nat.{ℕ, ◌<◌}
use lib.ListN.{length, get_or}
use lib.Seq.{ext_get_or}
use Rattle.model.specs.Doc.{Doc, resolves, live_slot}
use Rattle.model.specs.Calls.{order_key}
use Rattle.model.specs.Tree.{Tree, means}
use Rattle.laws.specs.Claim.{KeysAgree}
use Rattle.laws.proofs.Wf.{WF}
use Rattle.laws.proofs.Sim.{Sim}
use Rattle.laws.proofs.Basics.{by-handle, means-live}
use Rattle.laws.proofs.Explained.{explains}
use Rattle.commuting.proofs.Slots.{SameSlots, same_live}

module _ (t : Tree) (hs : ℕ → ℕ) (W : WF t) (d e : Doc) (S : Sim d t hs) (R : Sim e t hs) where
  -- a handle that means no birth resolves in the other document neither
  stale : (h : ℕ) → means t hs h ≡ None → resolves e h ≡ false
  stale =
      by-handle e t hs R (λ h. means t hs h ≡ None → resolves e h ≡ false)
      (λ b lb m. absurd (none-some b (sym m ∙ means-live e t hs R b lb)))
      (λ h m r f. r)

  pub same_key : (h : ℕ) → order_key d h ≡ order_key e h
  same_key =
      by-handle d t hs S (λ h. order_key d h ≡ order_key e h)
      (λ b lb. (explains d t hs S W).order_key b lb ∙ sym ((explains e t hs R W).order_key b lb))
      (λ h m r. rw (r, stale h m))

  pub same-words : SameSlots d e → (l k : List ℕ) → KeysAgree hs d t l → KeysAgree hs e t k → l ≡ k
  same-words s l k a b = ext_get_or 0 l k size (λ i lt. each i lt (live_slot d i) refl)
    where
      size : length l ≡ length k
      size = a.slots ∙ ap length s.gens ∙ sym b.slots

      each : (i : ℕ) → i < length l → (q : Bool) → live_slot d i ≡ q → get_or l i 0 ≡ get_or k i 0
      each i lt true f =
          let o = S.owner i f in
          subst (λ (j : ℕ). get_or l j 0 ≡ get_or k j 0) o.2 (a.live o.0 o.1 ∙ sym (b.live o.0 o.1))
      each i lt false f = a.free i lt f ∙ sym (b.free i (subst (λ (n : ℕ). i < n) size lt) (sym (same_live s i) ∙ f))
