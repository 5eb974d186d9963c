-- The order words cleared, and the renewed order as a whole.
-- Assumes nothing.
use mathlib.Core.Path.{◌≡◌, sym, ap, ◌∙◌, subst}
use mathlib.Core.Bool.{true}
use mathlib.Core.List.{List, ◌++◌}
use Prim.Native.Nat.{ℕ, ◌+◌, ◌-◌, ◌*◌, ◌≤◌}
use native.Mathlib.Omega.{arith}
use lib.ListN.{length, take, drop, replicate, length-append, length-replicate, length-drop, take-append-drop}
use lib.Seq.{length-take-le}
use Rattle.words.specs.Parts.{part, put}
use Rattle.words.proofs.Parts.{length_part, part-add, drop-part, length-put, part-put-same, part-put-after, drop-put-after, put-put, put_same, put_back, put-left}
use Rattle.slots.specs.Regions.{clear_order}
use Rattle.model.specs.Kinds.{children}
use Rattle.model.specs.Doc.{Doc, change_order, no_key}
use Rattle.model.specs.Edits.{keyed, ordered, order_of, renew_order}
use Rattle.layout.specs.declared.Document.{Document}
use Rattle.layout.specs.Layout.{limits_of, document_words, scratch_words, memory_ok}
use Rattle.memory.specs.Decode.{slots_part, slots_made, pool_in, names_in, lengths_add, decode}
use Rattle.memory.specs.Writing.{put_slots}
use Rattle.memory.specs.Step.{Step}
use Rattle.layout.specs.Record.{renewed}
use Rattle.layout.proofs.Sizes.{sizes, arena-behind-slots, arena-inside, names-next, words-next}
use Rattle.memory.proofs.Columns.{length-gens}
use Rattle.walks.specs.Order.{put_orders, put_keys, clear_keys, Walkable}
use Rattle.walks.proofs.Orders.{order-words, length-order, length-put_orders, decode-put_orders, put_orders-again, length-keyed}

-- what is put, with what follows it in the part
put-longer : (l : List ℕ) (q n : ℕ) (c : List ℕ) → length c ≤ n → q + n ≤ length l → put q c l ≡ put q (c ++ drop (length c) (part q n l)) l
put-longer l q n c h b =
    let M = put q c l in
    let m = length c in
    let r = n - length c in
    let e : m + r ≡ n = omega arith in
    let size : length M ≡ length l = length-put l q c (omega arith) in
    sym (put_same M q n (omega arith))
    ∙ put-put l q (part q n M) c (omega arith) (omega (arith, length_part M q n (omega arith)))
    ∙ ap (λ (x : List ℕ). put q x l)
    (ap (λ (k : ℕ). part q k M) (sym e)
    ∙ part-add M q m r
    ∙ ap (λ (x : List ℕ). x ++ part (q + m) r M) (part-put-same l q c (omega arith))
    ∙ ap (λ (x : List ℕ). c ++ x) (part-put-after l q c (q + m) r (omega arith) (omega arith) ∙ sym (drop-part l q r m))
    ∙ ap (λ (k : ℕ). c ++ drop m (part q k l)) e)

-- something put into the front of a list that is given back
put-front-back : (l : List ℕ) (k p : ℕ) (vs : List ℕ) → p + length vs ≤ k → k ≤ length l → put p vs (take k l) ++ drop k l ≡ put p vs l
put-front-back l k p vs h b =
    sym (put-left (take k l) (drop k l) p vs (omega (arith, length-take-le k l b)))
    ∙ ap (put p vs) (take-append-drop k l)

module _ (d : Document) (mem : List ℕ) (ok : memory_ok d (length mem) ≡ true) where
  abbrev n : ℕ
  n = d.limits.nodes

  abbrev D : Doc
  D = decode d mem

  long : 15 * n ≤ length mem
  long = (sizes d (length mem) ok).slots

  cleared : List ℕ
  cleared = replicate (slots_made d) no_key ++ drop (slots_made d) (decode d mem).order

  -- the slots with no key for those made
  pub keys-cleared : put_slots (clear_order d.limits.nodes (slots_part d mem) (slots_made d)) mem ≡ clear_keys d mem
  unfolding put_slots clear_order clear_keys put_orders part
  keys-cleared =
      let z = long in
      let c = replicate (slots_made d) no_key in
      let size : length c ≡ slots_made d = length-replicate (slots_made d) no_key in
      let there : length (take (15 * n) mem) ≡ 15 * n = length-take-le (15 * n) mem z in
      sym (put_back mem 0 (put (n * 14) c (take (15 * n) mem)) (15 * n) (length-put (take (15 * n) mem) (n * 14) c (omega arith) ∙ there))
      ∙ put-front-back mem (15 * n) (n * 14) c (omega arith) z
      ∙ put-longer mem (n * 14) n c (omega arith) (omega arith)
      ∙ ap (λ (m : ℕ). put (n * 14) (c ++ drop m (part (n * 14) n mem)) mem) size
      ∙ ap (λ (x : List ℕ). put (n * 14) (c ++ drop (slots_made d) x) mem) (sym (order-words d mem ok))

  cleared-size : length (replicate (slots_made d) no_key ++ drop (slots_made d) (decode d mem).order) ≡ n
  cleared-size =
      length-append (replicate (slots_made d) no_key) (drop (slots_made d) (decode d mem).order)
      ∙ omega (arith, length-replicate (slots_made d) no_key, length-drop (slots_made d) (decode d mem).order, length-order d mem ok)

  pub decode-clear_keys : decode d (clear_keys d mem) ≡ change_order (decode d mem) (replicate (slots_made d) no_key ++ drop (slots_made d) (decode d mem).order) d.current
  unfolding clear_keys
  decode-clear_keys = decode-put_orders d mem ok (replicate (slots_made d) no_key ++ drop (slots_made d) (decode d mem).order) cleared-size d.current

  -- ---- the rules that the walk uses hold with no keys

  pub walkable-cleared : Walkable (decode d mem) → (mem' : List ℕ) → mem' ≡ clear_keys d mem → Walkable (decode d mem')
  walkable-cleared W mem' e =
      subst Walkable (sym (ap (decode d) e ∙ decode-clear_keys))
      (record { entries = record { one = W.entries.one; no_other = W.entries.no_other }; blocks = W.blocks; root = W.root; top = W.top })

  -- ---- the whole

  pub order-size : length (order_of (decode d mem)) ≡ n
  unfolding order_of
  order-size =
      length-keyed _ 0 (ordered D)
      ∙ ap (λ (m : ℕ). length (replicate m no_key ++ drop m (decode d mem).order)) (length-gens (pool_in d mem) (names_in d mem) (lengths_add d mem) d mem)
      ∙ cleared-size

  pub order-renewed : (mem' mem'' : List ℕ) → mem' ≡ clear_keys d mem → mem'' ≡ put_keys d mem' 0 (ordered (decode d mem')) → mem'' ≡ put_orders d (order_of (decode d mem)) mem
  unfolding put_keys clear_keys order_of
  order-renewed mem' mem'' e q =
      let o = replicate (slots_made d) no_key ++ drop (slots_made d) (decode d mem).order in
      q ∙ ap (λ (x : List ℕ). put_orders d (keyed (decode d x).order 0 (ordered (decode d x))) x) e
      ∙ ap (λ (x : Doc). put_orders d (keyed x.order 0 (ordered x)) (put_orders d o mem)) decode-clear_keys
      ∙ put_orders-again d mem ok o cleared-size (keyed o 0 (ordered D)) (length-keyed o 0 (ordered D) ∙ cleared-size)
      ∙ ap (λ (m : ℕ). put_orders d (keyed (replicate m no_key ++ drop m (decode d mem).order) 0 (ordered D)) mem) (sym (length-gens (pool_in d mem) (names_in d mem) (lengths_add d mem) d mem))

  pub decode-renewed : (r : Document) (mem' : List ℕ) → r ≡ renewed d → mem' ≡ put_orders d (order_of (decode d mem)) mem → decode r mem' ≡ renew_order (decode d mem)
  unfolding renew_order
  decode-renewed r mem' e q = ap (λ (x : Document). decode x mem') e ∙ ap (decode (renewed d)) q ∙ decode-put_orders d mem ok (order_of D) order-size true

  -- as a step
  pub renewed-step : (r : Document) (mem' : List ℕ) → r ≡ renewed d → mem' ≡ put_orders d (order_of (decode d mem)) mem → Step d mem r mem' (renew_order (decode d mem))
  unfolding put_orders
  renewed-step r mem' e q =
      let l = limits_of d.limits in
      record {
        document = decode-renewed r mem' e q;
        limits = ap (λ (x : Document). x.limits) e;
        size = ap length q ∙ length-put_orders d mem ok (order_of D) order-size;
        past =
            ap (drop (document_words l)) q
            ∙ drop-put-after mem (n * 14) (order_of D) (document_words l) (let z = long in omega arith)
            (omega (arith, order-size, arena-behind-slots l children, arena-inside l children, names-next l, words-next l));
      }

-- what an editing call asks of scratch has a word for each slot
pub scratch-nodes : (d : Document) (scratch : ℕ) → scratch_words (limits_of d.limits) ≤ scratch → d.limits.nodes ≤ scratch
unfolding scratch_words
scratch-nodes d scratch h = omega arith
