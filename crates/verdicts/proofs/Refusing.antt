-- The number with which a call is refused, by its checks and Full.
-- Assumes nothing.
use Rattle.std.specs.Prelude.{Option, None, Some}
use mathlib.Core.Path.{◌≡◌, refl, ap, ◌∙◌}
use mathlib.Core.Bool.{Bool, true, false, ◌&&◌, cond}
use mathlib.Core.List.{List}
use Prim.Native.Nat.{ℕ, zero, suc}
use native.Mathlib.Omega.{arith}
use lib.ListN.{length, get_or}
use Rattle.blocks.specs.Arena.{block}
use Rattle.records.specs.Handles.{handle_index}
use Rattle.texts.specs.Pool.{slots_for}
use Rattle.names.specs.Table.{Name, name}
use Rattle.model.specs.Kinds.{children, attributes, namespaces, is_element, map_kind}
use Rattle.model.specs.Doc.{Doc, no_key, resolves, kind_at, range_in, bytes_at, view_at, on_path, is_some}
use Rattle.model.specs.Edits.{unhook}
use Rattle.model.specs.Arguments.{first}
use Rattle.model.specs.Checks.{check_append_element, check_append_text, check_append_comment, check_append_pi, check_set_text, check_set_attribute, check_declare_namespace, check_remove_attribute, check_remove, check_detach, check_move}
use Rattle.model.specs.Calls.{Call, append-element, append-text, append-comment, append-pi, set-text, set-attribute, remove-attribute, declare-namespace, remove, detach, reparent, insert-at, document-order, compact, root-of, kind-of, parent-of, children-of, root-element, is-element, name_of, attribute-nodes, namespace-nodes, nodes, order-key, Answered, refused, key, kind_is, is_refusal, Out, answers, guarded, full_unless, room_fits, node_fits, text_fits, name_fits_in, two_fit, replacement_fits, replaceable_at, root_taken, under_root, find_attribute, find_namespace, set_attribute_found, declare_namespace_found, remove_attribute_found, key_of, order_key, shown_kind, step}
use Rattle.verdicts.specs.Verdicts.{refusal_number}

-- ---- guards

pub guarded-first : (a b : ℕ) (D : Doc) (o : Out) → guarded a D (guarded b D o) ≡ guarded (first a b) D o
unfolding guarded
guarded-first zero b D o = refl
guarded-first (suc a) b D o = refl

pub number-first : (n : ℕ) (D : Doc) (o : Out) → refusal_number (guarded n D o).answer ≡ first n (refusal_number o.answer)
unfolding guarded
number-first zero D o = refl
number-first (suc n) D o = refl

pub first-none : (n : ℕ) → first n 0 ≡ n
first-none zero = refl
first-none (suc n) = refl

-- what is guarded is no refusal
pub number-guarded : (n : ℕ) (D : Doc) (o : Out) → refusal_number o.answer ≡ 0 → refusal_number (guarded n D o).answer ≡ n
number-guarded n D o z = number-first n D o ∙ ap (first n) z ∙ first-none n

-- ---- the number tells all: 0 that the call is done, another that it answers that refusal and changes nothing

pub record Numbered (D : Doc) (o : Out) : Type 0 where
  pub accepted : refusal_number o.answer ≡ 0 → is_refusal o.answer ≡ false
  pub answered : (n : ℕ) → refusal_number o.answer ≡ suc n → o.answer ≡ refused (suc n)
  pub unchanged : (n : ℕ) → refusal_number o.answer ≡ suc n → o.doc ≡ D

module _ (D : Doc) where
  numbered-done : (E : Doc) (a : Answered) → is_refusal a ≡ false → refusal_number a ≡ 0 → Numbered D (answers E a)
  numbered-done E a e z = record { accepted = λ q. e; answered = λ n q. absurd (omega (arith, z, q)); unchanged = λ n q. absurd (omega (arith, z, q)) }

  numbered-guarded : (n : ℕ) (o : Out) → Numbered D o → Numbered D (guarded n D o)
  unfolding guarded
  numbered-guarded zero o t = t
  numbered-guarded (suc n) o t = record { accepted = λ q. absurd (omega arith); answered = λ m q. ap (λ (x : ℕ). refused x) q; unchanged = λ m q. refl }

  set-numbered : (f : Option ℕ) (e : ℕ) (n : Name) (value : List ℕ) → Numbered D (set_attribute_found f D e n value)
  set-numbered (Some a) e n value = numbered-guarded _ _ (numbered-done _ _ refl refl)
  set-numbered None e n value = numbered-guarded _ _ (numbered-done _ _ refl refl)

  declare-numbered : (f : Option ℕ) (e : ℕ) (prefix uri : List ℕ) → Numbered D (declare_namespace_found f D e prefix uri)
  declare-numbered (Some a) e prefix uri = numbered-guarded _ _ (numbered-done _ _ refl refl)
  declare-numbered None e prefix uri = numbered-guarded _ _ (numbered-done _ _ refl refl)

  remove-numbered : (f : Option ℕ) → Numbered D (remove_attribute_found f D)
  remove-numbered (Some a) = numbered-done _ _ refl refl
  remove-numbered None = numbered-done _ _ refl refl

  kind-numbered : (h : ℕ) → Numbered D (answers D (shown_kind D h))
  kind-numbered h = go (resolves D h)
    where
      go : (r : Bool)
          → Numbered D (answers D (cond r (kind_is (Some (map_kind (λ n. n) (bytes_at D) (kind_at D h))) (cond (is_element (kind_at D h)) (range_in D attributes (handle_index h)) (block 0 0)) (cond (is_element (kind_at D h)) (range_in D namespaces (handle_index h)) (block 0 0))) (kind_is None (block 0 0) (block 0 0))))
      go true = numbered-done _ _ refl refl
      go false = numbered-done _ _ refl refl

  key-numbered : (h : ℕ) → Numbered D (answers D (order_key D h))
  key-numbered h = go (resolves D h) D.current
    where
      go : (r c : Bool) → Numbered D (answers D (cond r (cond c (key (key_of (get_or D.order (handle_index h) no_key))) (refused 15)) (key None)))
      go true true = numbered-done _ _ refl refl
      go true false = record { accepted = λ q. absurd (omega arith); answered = λ n q. ap (λ (x : ℕ). refused x) q; unchanged = λ n q. refl }
      go false c = numbered-done _ _ refl refl

  pub numbered : (c : Call) → Numbered D (step c D)
  numbered (append-element p ns local) = numbered-guarded _ _ (numbered-done _ _ refl refl)
  numbered (append-text p t) = numbered-guarded _ _ (numbered-done _ _ refl refl)
  numbered (append-comment p t) = numbered-guarded _ _ (numbered-done _ _ refl refl)
  numbered (append-pi p s t) = numbered-guarded _ _ (numbered-done _ _ refl refl)
  numbered (set-text h t) = numbered-guarded _ _ (numbered-done _ _ refl refl)
  numbered (set-attribute e ns local value) = numbered-guarded _ _ (set-numbered (find_attribute D e (name ns local)) e (name ns local) value)
  numbered (remove-attribute e ns local) = numbered-guarded _ _ (remove-numbered (find_attribute D e (name ns local)))
  numbered (declare-namespace e prefix uri) = numbered-guarded _ _ (declare-numbered (find_namespace D e prefix) e prefix uri)
  numbered (remove h) = numbered-guarded _ _ (numbered-done _ _ refl refl)
  numbered (detach h) = numbered-guarded _ _ (numbered-done _ _ refl refl)
  numbered (reparent c p) = numbered-guarded _ _ (numbered-done _ _ refl refl)
  numbered (insert-at p i c) = numbered-guarded _ _ (numbered-done _ _ refl refl)
  numbered document-order = numbered-done _ _ refl refl
  numbered compact = numbered-done _ _ refl refl
  numbered root-of = numbered-done _ _ refl refl
  numbered (kind-of h) = kind-numbered h
  numbered (parent-of h) = numbered-done _ _ refl refl
  numbered (children-of h) = numbered-done _ _ refl refl
  numbered root-element = numbered-done _ _ refl refl
  numbered (is-element h) = numbered-done _ _ refl refl
  numbered (name_of n) = numbered-done _ _ refl refl
  numbered (attribute-nodes h) = numbered-done _ _ refl refl
  numbered (namespace-nodes h) = numbered-done _ _ refl refl
  numbered nodes = numbered-done _ _ refl refl
  numbered (order-key h) = key-numbered h

-- ---- the calls whose plans are one check and Full

module _ (D : Doc) where
  pub append_element_number : (p : ℕ) (ns local : List ℕ)
      → refusal_number (step (append-element p ns local) D).answer ≡ first (check_append_element ns local (view_at D p) (root_taken D None)) (full_unless (name_fits_in D (name ns local) && node_fits D children p))
  append_element_number p ns local = number-guarded _ D _ refl

  pub append_text_number : (p : ℕ) (t : List ℕ)
      → refusal_number (step (append-text p t) D).answer ≡ first (check_append_text t (view_at D p)) (full_unless (text_fits D (slots_for t) 0 (length t) && node_fits D children p))
  append_text_number p t = number-guarded _ D _ refl

  pub append_comment_number : (p : ℕ) (t : List ℕ)
      → refusal_number (step (append-comment p t) D).answer ≡ first (check_append_comment t (view_at D p)) (full_unless (text_fits D (slots_for t) 0 (length t) && node_fits D children p))
  append_comment_number p t = number-guarded _ D _ refl

  pub append_pi_number : (p : ℕ) (s t : List ℕ)
      → refusal_number (step (append-pi p s t) D).answer ≡ first (check_append_pi s t (view_at D p)) (full_unless (two_fit D s t && node_fits D children p))
  append_pi_number p s t = number-guarded _ D _ refl

  pub set_text_number : (h : ℕ) (t : List ℕ)
      → refusal_number (step (set-text h t) D).answer ≡ first (check_set_text t (view_at D h) (under_root D h)) (full_unless (replacement_fits D (replaceable_at D h) t))
  set_text_number h t = number-guarded _ D _ refl

  pub remove_number : (h : ℕ) → refusal_number (step (remove h) D).answer ≡ check_remove (view_at D h)
  remove_number h = number-guarded _ D _ refl

  pub detach_number : (h : ℕ) → refusal_number (step (detach h) D).answer ≡ check_detach (view_at D h)
  detach_number h = number-guarded _ D _ refl

  -- both moves are refused alike
  pub reparent_number : (p c : ℕ)
      → refusal_number (step (reparent c p) D).answer ≡ first (check_move (view_at D c) (view_at D p) (on_path (length D.gens) D c p) (root_taken D (Some c))) (full_unless (room_fits (unhook D c) children p))
  reparent_number p c = number-guarded _ D _ refl

  pub insert_number : (p i c : ℕ)
      → refusal_number (step (insert-at p i c) D).answer ≡ first (check_move (view_at D c) (view_at D p) (on_path (length D.gens) D c p) (root_taken D (Some c))) (full_unless (room_fits (unhook D c) children p))
  insert_number p i c = number-guarded _ D _ refl

  pub set_attribute_number : (e : ℕ) (ns local value : List ℕ)
      → refusal_number (step (set-attribute e ns local value) D).answer ≡ first (check_set_attribute ns local value (view_at D e) (is_some (find_attribute D e (name ns local)))) (refusal_number (set_attribute_found (find_attribute D e (name ns local)) D e (name ns local) value).answer)
  set_attribute_number e ns local value = number-first _ D _

  pub declare_namespace_number : (e : ℕ) (prefix uri : List ℕ)
      → refusal_number (step (declare-namespace e prefix uri) D).answer ≡ first (check_declare_namespace prefix uri (view_at D e)) (refusal_number (declare_namespace_found (find_namespace D e prefix) D e prefix uri).answer)
  declare_namespace_number e prefix uri = number-first _ D _

  -- never Full
  pub remove_attribute_number : (e : ℕ) (ns local : List ℕ) → refusal_number (step (remove-attribute e ns local) D).answer ≡ check_remove_attribute ns local (view_at D e)
  remove_attribute_number e ns local = number-guarded _ D _ (never (find_attribute D e (name ns local)))
    where
      never : (f : Option ℕ) → refusal_number (remove_attribute_found f D).answer ≡ 0
      never None = refl
      never (Some a) = refl
