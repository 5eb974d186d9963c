-- A call on the document is never refused 4 or 5: those are tested before it; and 6 only where S, that a handle of it is stale.
-- Assumes nothing.
use mathlib.Core.Path.{◌≡◌, refl, ap}
use mathlib.Core.Logic.{◌≢◌}
use mathlib.Core.Bool.{Bool, true, false, not, cond, ◌&&◌, true≢false}
use mathlib.Core.List.{List, [], ◌∷◌}
use Prim.Native.Nat.{ℕ, zero, suc}
use native.Mathlib.Omega.{arith}
use Rattle.std.specs.Prelude.{Ok, Err, Option, None, Some}
use Rattle.chars.specs.declared.Fault.TheVariants.{NotUtf8, InvalidName, InvalidText}
use Rattle.chars.specs.Checks.{Check, number_of, on_text, on_texts, of_text, check_prefix, check_text, check_comment, check_pi, check_namespace, check_namespace_binding}
use Rattle.chars.specs.Classes.{class_of, is_nc_name}
use Rattle.words.specs.Lists.{all}
use Rattle.names.specs.Table.{Name, name}
use Rattle.model.specs.Kinds.{Kind, root, element, attribute, text, comment, namespace, instruction, children, attributes, namespaces, is_container, is_element, is_root, text_of, map_kind}
use Rattle.model.specs.Resolving.{handles_of}
use Rattle.model.specs.Doc.{Doc, node_at, resolves, is_none, is_some, any_option, view_at, on_path, kind_at, bytes_at, range_in, no_key}
use Rattle.records.specs.Handles.{handle_index}
use Rattle.model.specs.Edits.{unhook}
use Rattle.texts.specs.Pool.{slots_for}
use Rattle.blocks.specs.Arena.{Block, block}
use lib.ListN.{length, get_or}
use Rattle.model.specs.Arguments.{refuse_if, first, is_utf8, not_utf8, name_check, namespace_check, binding_check, prefix_check, text_check, comment_check, instruction_check, space_only, is_xmlns}
use Rattle.model.specs.Checks.{View, container, an_element, a_child, a_text, text_under, moved_text, stored_text, is_empty, check_append_element, check_append_text, check_append_comment, check_append_pi, check_set_text, check_remove, check_move, undeclares_prefix}
use Rattle.model.specs.Calls.{Answered, refused, done, made, truth, node, listed, every_node, kind_is, name_is, key, keys, Out, guarded, full_unless, step, set_attribute_found, declare_namespace_found, remove_attribute_found, find_attribute, find_namespace, order_key, key_of, shown_kind, append_one_text, move_to, root_taken, under_root, name_fits_in, text_fits, two_fit, node_fits, room_fits, replacement_fits, replaceable_at, Call, append-element, append-text, append-comment, append-pi, set-text, set-attribute, remove-attribute, declare-namespace, remove, detach, reparent, insert-at, document-order, compact, root-of, kind-of, parent-of, children-of, root-element, is-element, name_of, attribute-nodes, namespace-nodes, nodes, order-key}

-- a number that is neither 4 nor 5, and 6 only where S
abbrev Other : Type 0 → ℕ → Type 0
Other S n = (n ≢ 4) × (n ≢ 5) × (n ≡ 6 → S)

module _ {S : Type 0} where
  first-other : (a b : ℕ) → Other S a → Other S b → Other S (first a b)
  first-other zero b p q = q
  first-other (suc a) b p q = p

  zero-other : Other S 0
  zero-other = (λ e. omega arith, λ e. omega arith, λ e. absurd (omega arith))

  refuse-other : (t : Bool) (n : ℕ) → Other S n → Other S (refuse_if t n)
  refuse-other true n p = p
  refuse-other false n p = zero-other

  check-other : (c : Check) → Other S (number_of c)
  check-other (Ok u) = zero-other
  check-other (Err NotUtf8) = (λ e. omega arith, λ e. omega arith, λ e. absurd (omega arith))
  check-other (Err InvalidName) = (λ e. omega arith, λ e. omega arith, λ e. absurd (omega arith))
  check-other (Err InvalidText) = (λ e. omega arith, λ e. omega arith, λ e. absurd (omega arith))

  utf8-other : (l : List (List ℕ)) → Other S (not_utf8 l)
  utf8-other l = refuse-other (not (all is_utf8 l)) 1 (λ e. omega arith, λ e. omega arith, λ e. absurd (omega arith))

  name-other : (s : List ℕ) → Other S (name_check s)
  unfolding name_check
  name-other s = refuse-other (not (of_text (is_nc_name class_of) s)) 2 (λ e. omega arith, λ e. omega arith, λ e. absurd (omega arith))

  namespace-other : (s : List ℕ) → Other S (namespace_check s)
  unfolding namespace_check
  namespace-other s = check-other (on_text check_namespace s)

  binding-other : (s : List ℕ) → Other S (binding_check s)
  unfolding binding_check
  binding-other s = check-other (on_text check_namespace_binding s)

  prefix-other : (s : List ℕ) → Other S (prefix_check s)
  unfolding prefix_check
  prefix-other s = check-other (on_text (check_prefix class_of) s)

  text-other : (s : List ℕ) → Other S (text_check s)
  unfolding text_check
  text-other s = check-other (on_text check_text s)

  comment-other : (s : List ℕ) → Other S (comment_check s)
  unfolding comment_check
  comment-other s = check-other (on_text check_comment s)

  instruction-other : (s c : List ℕ) → Other S (instruction_check s c)
  unfolding instruction_check
  instruction-other s c = check-other (on_texts (check_pi class_of) s c)

  -- ---- what the checks see

  container-other : (v : View) → (v ≡ None → S) → Other S (container v)
  container-other None z = (λ e. omega arith, λ e. omega arith, λ e. z refl)
  container-other (Some k) z = refuse-other (not (is_container k)) 8 (λ e. omega arith, λ e. omega arith, λ e. absurd (omega arith))

  element-other : (v : View) → (v ≡ None → S) → Other S (an_element v)
  element-other None z = (λ e. omega arith, λ e. omega arith, λ e. z refl)
  element-other (Some k) z = refuse-other (not (is_element k)) 7 (λ e. omega arith, λ e. omega arith, λ e. absurd (omega arith))

  child-other : (v : View) → (v ≡ None → S) → Other S (a_child v)
  child-other None z = (λ e. omega arith, λ e. omega arith, λ e. z refl)
  child-other (Some root) z = (λ e. omega arith, λ e. omega arith, λ e. absurd (omega arith))
  child-other (Some (element n)) z = zero-other
  child-other (Some (attribute n v)) z = (λ e. omega arith, λ e. omega arith, λ e. absurd (omega arith))
  child-other (Some (text s)) z = zero-other
  child-other (Some (comment s)) z = zero-other
  child-other (Some (namespace p u)) z = (λ e. omega arith, λ e. omega arith, λ e. absurd (omega arith))
  child-other (Some (instruction s c)) z = zero-other

  a-text-other : (v : View) → (v ≡ None → S) → Other S (a_text v)
  a-text-other None z = (λ e. omega arith, λ e. omega arith, λ e. z refl)
  a-text-other (Some k) z = refuse-other (is_none (text_of k)) 10 (λ e. omega arith, λ e. omega arith, λ e. absurd (omega arith))

  under-other : (b : Bool) (s : List ℕ) → Other S (text_under b s)
  under-other b s = first-other (text_check s) _ (text-other s) (refuse-other (b && not (space_only s)) 3 (λ e. omega arith, λ e. omega arith, λ e. absurd (omega arith)))

  moved_other : (b : Bool) (o : Option (List ℕ)) → Other S (moved_text b o)
  moved_other b None = zero-other
  moved_other b (Some s) = go (is_utf8 s)
    where
      go : (q : Bool) → Other S (cond q (text_under b s) 3)
      go true = under-other b s
      go false = (λ e. omega arith, λ e. omega arith, λ e. absurd (omega arith))

  remove-other : (v : View) → (v ≡ None → S) → Other S (check_remove v)
  remove-other None z = (λ e. omega arith, λ e. omega arith, λ e. z refl)
  remove-other (Some k) z = refuse-other (is_root k) 11 (λ e. omega arith, λ e. omega arith, λ e. absurd (omega arith))

  full-other : (fits : Bool) → Other S (full_unless fits)
  full-other fits = refuse-other (not fits) 14 (λ e. omega arith, λ e. omega arith, λ e. absurd (omega arith))

-- ---- the calls

-- an answer that is no refusal by 4 or 5, and none by 6 but where S
abbrev pub Tested : Type 0 → Answered → Type 0
Tested S (refused n) = Other S n
Tested S done = Unit {0}
Tested S (made h) = Unit {0}
Tested S (truth b) = Unit {0}
Tested S (node h) = Unit {0}
Tested S (listed r l) = Unit {0}
Tested S (every_node l) = Unit {0}
Tested S (kind_is k a n) = Unit {0}
Tested S (name_is n) = Unit {0}
Tested S (key k) = Unit {0}
Tested S (keys l) = Unit {0}

module _ (S : Type 0) where
  guarded-tested : (n : ℕ) (d : Doc) (o : Out) → Other S n → Tested S o.answer → Tested S (guarded n d o).answer
  unfolding guarded
  guarded-tested zero d o p q = q
  guarded-tested (suc n) d o p q = p

  attribute-tested : (f : Option ℕ) (d : Doc) (e : ℕ) (n : Name) (s : List ℕ) → Tested S (set_attribute_found f d e n s).answer
  attribute-tested None d e n s = guarded-tested _ d _ (full-other (name_fits_in d n && (text_fits d (slots_for s) 0 (length s) && node_fits d attributes e))) (tt {0})
  attribute-tested (Some a) d e n s = guarded-tested _ d _ (full-other (replacement_fits d (replaceable_at d a) s)) (tt {0})

  declared-tested : (f : Option ℕ) (d : Doc) (e : ℕ) (p u : List ℕ) → Tested S (declare_namespace_found f d e p u).answer
  declared-tested None d e p u = guarded-tested _ d _ (full-other (two_fit d p u && node_fits d namespaces e)) (tt {0})
  declared-tested (Some a) d e p u = guarded-tested _ d _ (full-other (replacement_fits d (replaceable_at d a) u)) (tt {0})

  removed-tested : (f : Option ℕ) (d : Doc) → Tested S (remove_attribute_found f d).answer
  removed-tested None d = tt
  removed-tested (Some a) d = tt

  key-tested : (d : Doc) (h : ℕ) → Tested S (order_key d h)
  key-tested d h = go (resolves d h) d.current
    where
      shown : Option ℕ
      shown = key_of (get_or d.order (handle_index h) no_key)

      go : (r c : Bool) → Tested S (cond r (cond c (key shown) (refused 15)) (key None))
      go true true = tt
      go true false = (λ e. omega arith, λ e. omega arith, λ e. absurd (omega arith))
      go false c = tt

  -- a move's checks
  move-other : (child parent : View) → (child ≡ None → S) → (parent ≡ None → S) → (cycle taken : Bool) → Other S (check_move child parent cycle taken)
  move-other child parent p q cycle taken =
      first-other (a_child child) _ (child-other child p)
      (first-other (container parent) _ (container-other parent q)
      (first-other (refuse_if cycle 13) _ (refuse-other cycle 13 (λ e. omega arith, λ e. omega arith, λ e. absurd (omega arith)))
      (first-other (refuse_if (any_option is_root parent && (any_option is_element child && taken)) 12) _
      (refuse-other (any_option is_root parent && (any_option is_element child && taken)) 12 (λ e. omega arith, λ e. omega arith, λ e. absurd (omega arith)))
      (moved_other (any_option is_root parent) (stored_text child)))))

  move-tested : (d : Doc) (p : ℕ) (at : Option ℕ) (c : ℕ) → (view_at d c ≡ None → S) → (view_at d p ≡ None → S) → Tested S (move_to d p at c).answer
  move-tested d p at c x y =
      guarded-tested _ d _
      (first-other (check_move (view_at d c) (view_at d p) (on_path (length d.gens) d c p) (root_taken d (Some c))) _
      (move-other (view_at d c) (view_at d p) x y (on_path (length d.gens) d c p) (root_taken d (Some c))) (full-other (room_fits (unhook d c) children p)))
      (tt {0})

  text-tested : (check : ℕ) (d : Doc) (p : ℕ) (k : Option ℕ → Kind ℕ (Option ℕ)) (s : List ℕ) → Other S check → Tested S (append_one_text check d p k s).answer
  text-tested check d p k s o = guarded-tested _ d _ (first-other check _ o (full-other (text_fits d (slots_for s) 0 (length s) && node_fits d children p))) (tt {0})

  kind-tested : (d : Doc) (h : ℕ) → Tested S (shown_kind d h)
  kind-tested d h =
      go (resolves d h) (Some (map_kind (λ n. n) (bytes_at d) (kind_at d h)))
      (cond (is_element (kind_at d h)) (range_in d attributes (handle_index h)) (block 0 0))
      (cond (is_element (kind_at d h)) (range_in d namespaces (handle_index h)) (block 0 0))
    where
      go : (r : Bool) (k : Option (Kind ℕ (List ℕ))) (a n : Block) → Tested S (cond r (kind_is k a n) (kind_is None (block 0 0) (block 0 0)))
      go true k a n = tt
      go false k a n = tt

-- a handle that shows nothing is stale
unseen : (d : Doc) (h : ℕ) → view_at d h ≡ None → resolves d h ≡ false
unseen d h e = go (resolves d h) refl e
  where
    go : (r : Bool) → resolves d h ≡ r → cond r (Some (node_at d h)) None ≡ None → resolves d h ≡ false
    go true q f = (let z : ◌≡◌ {A = Bool} true false = ap is_some f in absurd (true≢false z))
    go false q f = q

abbrev Stale : Doc → List ℕ → Type 0
Stale d l = all (resolves d) l ≡ false

stale : (d : Doc) (h : ℕ) → view_at d h ≡ None → all (resolves d) (h ∷ []) ≡ false
stale d h e = rw (unseen d h e)

stale-first : (d : Doc) (a b : ℕ) → view_at d a ≡ None → all (resolves d) (a ∷ b ∷ []) ≡ false
stale-first d a b e = rw (unseen d a e)

stale-second : (d : Doc) (a b : ℕ) → view_at d b ≡ None → all (resolves d) (a ∷ b ∷ []) ≡ false
stale-second d a b e = rw (unseen d b e) (and-false (resolves d a))
  where
    and-false : (q : Bool) → (q && false) ≡ false
    and-false true = refl
    and-false false = refl

pub tested : (c : Call) (d : Doc) → Tested (all (resolves d) (handles_of c) ≡ false) (step c d).answer
tested (append-element p ns local) d =
    guarded-tested (Stale d (p ∷ [])) _ d _
    (first-other (check_append_element ns local (view_at d p) (root_taken d None)) _
    (first-other (not_utf8 (ns ∷ local ∷ [])) _ (utf8-other (ns ∷ local ∷ []))
    (first-other (container (view_at d p)) _ (container-other (view_at d p) (stale d p))
    (first-other (refuse_if (any_option is_root (view_at d p) && root_taken d None) 12) _
    (refuse-other (any_option is_root (view_at d p) && root_taken d None) 12 (λ e. omega arith, λ e. omega arith, λ e. absurd (omega arith)))
    (first-other (name_check local) (namespace_check ns) (name-other local) (namespace-other ns)))))
    (full-other (name_fits_in d (name ns local) && node_fits d children p)))
    (tt {0})
tested (append-text p s) d =
    text-tested (Stale d (p ∷ [])) (check_append_text s (view_at d p)) d p text s
    (first-other (not_utf8 (s ∷ [])) _ (utf8-other (s ∷ []))
    (first-other (container (view_at d p)) _ (container-other (view_at d p) (stale d p)) (under-other (any_option is_root (view_at d p)) s)))
tested (append-comment p s) d =
    text-tested (Stale d (p ∷ [])) (check_append_comment s (view_at d p)) d p comment s
    (first-other (not_utf8 (s ∷ [])) _ (utf8-other (s ∷ [])) (first-other (container (view_at d p)) _ (container-other (view_at d p) (stale d p)) (comment-other s)))
tested (append-pi p s c) d =
    guarded-tested (Stale d (p ∷ [])) _ d _
    (first-other (check_append_pi s c (view_at d p)) _
    (first-other (not_utf8 (s ∷ c ∷ [])) _ (utf8-other (s ∷ c ∷ [])) (first-other (container (view_at d p)) _ (container-other (view_at d p) (stale d p)) (instruction-other s c)))
    (full-other (two_fit d s c && node_fits d children p)))
    (tt {0})
tested (set-text h s) d =
    guarded-tested (Stale d (h ∷ [])) _ d _
    (first-other (check_set_text s (view_at d h) (under_root d h)) _
    (first-other (not_utf8 (s ∷ [])) _ (utf8-other (s ∷ [])) (first-other (a_text (view_at d h)) _ (a-text-other (view_at d h) (stale d h)) (under-other (under_root d h) s)))
    (full-other (replacement_fits d (replaceable_at d h) s)))
    (tt {0})
tested (set-attribute e ns local value) d =
    guarded-tested (Stale d (e ∷ [])) _ d _
    (first-other (not_utf8 (ns ∷ local ∷ value ∷ [])) _ (utf8-other (ns ∷ local ∷ value ∷ []))
    (first-other (an_element (view_at d e)) _ (element-other (view_at d e) (stale d e))
    (first-other (namespace_check ns) _ (namespace-other ns)
    (first-other (refuse_if (is_empty ns && is_xmlns local) 2) _ (refuse-other (is_empty ns && is_xmlns local) 2 (λ q. omega arith, λ q. omega arith, λ q. absurd (omega arith)))
    (first-other (text_check value) _ (text-other value) (new (is_some (find_attribute d e (name ns local)))))))))
    (attribute-tested (Stale d (e ∷ [])) (find_attribute d e (name ns local)) d e (name ns local) value)
  where
    new : {S : Type 0} → (found : Bool) → Other S (cond found 0 (name_check local))
    new true = zero-other
    new false = name-other local
tested (remove-attribute e ns local) d =
    guarded-tested (Stale d (e ∷ [])) _ d _ (first-other (not_utf8 (ns ∷ local ∷ [])) _ (utf8-other (ns ∷ local ∷ [])) (element-other (view_at d e) (stale d e)))
    (removed-tested (Stale d (e ∷ [])) (find_attribute d e (name ns local)) d)
tested (declare-namespace e prefix uri) d =
    guarded-tested (Stale d (e ∷ [])) _ d _
    (first-other (not_utf8 (prefix ∷ uri ∷ [])) _ (utf8-other (prefix ∷ uri ∷ []))
    (first-other (an_element (view_at d e)) _ (element-other (view_at d e) (stale d e)) (first-other (prefix_check prefix) _ (prefix-other prefix)
    (first-other (binding_check uri) _ (binding-other uri) (refuse-other (undeclares_prefix prefix uri) 2 (λ q. omega arith, λ q. omega arith, λ q. absurd (omega arith)))))))
    (declared-tested (Stale d (e ∷ [])) (find_namespace d e prefix) d e prefix uri)
tested (remove h) d = guarded-tested (Stale d (h ∷ [])) _ d _ (remove-other (view_at d h) (stale d h)) (tt {0})
tested (detach h) d = guarded-tested (Stale d (h ∷ [])) _ d _ (child-other (view_at d h) (stale d h)) (tt {0})
tested (reparent c p) d = move-tested (Stale d (c ∷ p ∷ [])) d p None c (λ e. stale-first d c p e) (λ e. stale-second d c p e)
tested (insert-at p i c) d = move-tested (Stale d (p ∷ c ∷ [])) d p (Some i) c (λ e. stale-second d p c e) (λ e. stale-first d p c e)
tested document-order d = tt
tested compact d = tt
tested root-of d = tt
tested (kind-of h) d = kind-tested (Stale d (h ∷ [])) d h
tested (parent-of h) d = tt
tested (children-of h) d = tt
tested root-element d = tt
tested (is-element h) d = tt
tested (name_of n) d = tt
tested (attribute-nodes h) d = tt
tested (namespace-nodes h) d = tt
tested nodes d = tt
tested (order-key h) d = key-tested (Stale d (h ∷ [])) d h
