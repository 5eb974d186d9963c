-- The relation looks at the handles of births made so far only: another handle for a birth to come keeps it.
-- Assumes nothing.
use Rattle.std.specs.Prelude.{Option, None, Some}
use mathlib.Core.Path.{◌≡◌, refl, sym, ap, ap₂, ◌∙◌, subst}
use mathlib.Core.Logic.{◌⊎◌, inl, inr}
use mathlib.Core.Bool.{true}
use mathlib.Core.List.{List, [], ◌∷◌, map, Memᴰ}
use Prim.Native.Nat.{ℕ, ◌<◌}
use native.Mathlib.Omega.{arith}
use Rattle.records.specs.Handles.{handle_index}
use Rattle.model.specs.Doc.{Doc, map_option, kind_at}
use Rattle.model.specs.Kinds.{names_of}
use Rattle.model.specs.Tree.{Tree}
use Rattle.laws.proofs.Wf.{WF}
use Rattle.laws.proofs.Sim.{Sim, Pooled, fields}

map_same : (f g : ℕ → ℕ) (l : List ℕ) → ((x : ℕ) → Memᴰ x l → f x ≡ g x) → map f l ≡ map g l
map_same f g [] h = refl
map_same f g (x ∷ l) h = ap₂ (λ (y : ℕ) (r : List ℕ). y ∷ r) (h x (Memᴰ.head refl)) (map_same f g l (λ y m. h y (Memᴰ.tail m)))

module _ {d : Doc} {t : Tree} (hs gs : ℕ → ℕ) (same : (b : ℕ) → b < t.births → gs b ≡ hs b) (S : Sim d t hs) (W : WF t) where
  at-live : (b : ℕ) → t.live b ≡ true → gs b ≡ hs b
  at-live b lb = same b (S.counted b lb)

  pooled : Pooled d t gs
  pooled = record {
    inside = λ b s lb m. S.pool.inside b s lb (moved b s lb m);
    distinct = λ b lb. rw (at-live b lb) (S.pool.distinct b lb);
    single = λ a b s la lb ma mb. S.pool.single a b s la lb (moved a s la ma) (moved b s lb mb);
    free_inside = S.pool.free_inside;
    free_once = S.pool.free_once;
    free_apart = λ b s lb m f. S.pool.free_apart b s lb (moved b s lb m) f;
    covered = λ s lt. covered (S.pool.covered s lt);
  }
    where
      moved : (b s : ℕ) → t.live b ≡ true → Memᴰ s (fields d (gs b)) → Memᴰ s (fields d (hs b))
      moved b s lb m = subst (λ (h : ℕ). Memᴰ s (fields d h)) (at-live b lb) m

      covered : {s : ℕ} → Memᴰ s d.pool.free ⊎ ((b : ℕ) × (t.live b ≡ true) × Memᴰ s (fields d (hs b)))
          → Memᴰ s d.pool.free ⊎ ((b : ℕ) × (t.live b ≡ true) × Memᴰ s (fields d (gs b)))
      covered (inl m) = inl m
      covered {s} (inr o) = inr (o.0, o.1, subst (λ (h : ℕ). Memᴰ s (fields d h)) (sym (at-live o.0 o.1)) o.2)

  parents-same : (b : ℕ) → t.live b ≡ true → map_option hs (t.parent b) ≡ map_option gs (t.parent b)
  parents-same b lb = go (t.parent b) refl
    where
      go : (o : Option ℕ) → t.parent b ≡ o → map_option hs o ≡ map_option gs o
      go None e = refl
      go (Some p) e = ap {B = Option ℕ} Some (sym (at-live p (W.upward b p lb e).0))

  pub sim-retold : Sim d t gs
  sim-retold = record {
    shape = S.shape;
    limits = S.limits;
    counts = S.counts;
    lengths = S.lengths;
    within = S.within;
    generations = S.generations;
    nodes = S.nodes;
    order_fits = S.order_fits;
    caps_fit = S.caps_fit;
    free = S.free;
    blocks = S.blocks;
    pool = pooled;
    named = λ b n lb m. S.named b n lb (subst (λ (h : ℕ). Memᴰ n (names_of (kind_at d h))) (at-live b lb) m);
    counted = S.counted;
    lives = λ b lb. rw (at-live b lb) (S.lives b lb);
    gen = λ b lb. rw (at-live b lb) (S.gen b lb);
    inj = λ a b la lb e. S.inj a b la lb (sym (ap handle_index (at-live a la)) ∙ e ∙ ap handle_index (at-live b lb));
    owner = λ i l. (let o = S.owner i l in (o.0, o.1, ap handle_index (at-live o.0 o.1) ∙ o.2));
    kind = λ b lb. rw (at-live b lb) (S.kind b lb);
    parent = λ b lb. rw (at-live b lb) (S.parent b lb ∙ parents-same b lb);
    lists = λ w b lb. rw (at-live b lb) (S.lists w b lb ∙ map_same hs gs (t.lists w b) (λ x m. sym (at-live x (W.downward w b x lb m).0)));
    current = S.current;
    order = λ c b lb. rw (at-live b lb) (S.order c b lb);
    order_free = S.order_free;
    fresh = λ few. (let u = S.fresh few in record {
      in_slots = λ b lt. rw (same b lt) (u.in_slots b lt);
      older = λ b lt f. rw (same b lt) (u.older b lt f);
      bound = u.bound;
      apart = λ a b ab bn e. u.apart a b ab bn (sym (same a (omega arith)) ∙ e ∙ same b bn);
    });
    root_live = S.root_live;
    root_is = at-live 0 S.root_live ∙ S.root_is;
  }
