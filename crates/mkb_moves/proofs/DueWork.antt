-- Which work is due for a process on one board and for one on another, where the labels, the noted overlaps and the facts that it reads are the same, or more.
use Rattle.std.proofs.Common.{ℕ, ◌≤◌, ◌≡◌, ◌≢◌, refl, ap, ap₂, ◌∙◌, List, [], ◌∷◌, filter, length, Contains, Bool, true, false, not, ◌&&◌, ◌||◌, ◌==◌, Option, Some, None}
use Rattle.std.specs.List.{list_any}
use Rattle.std.proofs.lemmas.Bool.{eq-eqb, and_from, or_from}
use Rattle.kb_lemmas.proofs.Booleans.{and_gives_left, and_gives_right}
use Rattle.kb_term.specs.declared.origin.RuleRef.{RuleRef}
use Rattle.kb_term.specs.declared.origin.Found.{Found}
use Rattle.kb_term.specs.declared.origin.Found.TheVariants.{No, Variant, Strict}
use Rattle.kb_label.specs.Names.{Name, has}
use Rattle.kb_node.specs.declared.node.LabelKind.{LabelKind}
use Rattle.kb_node.specs.declared.node.LabelKind.TheVariants.{R0, R1, E, X}
use Rattle.kb_node.specs.declared.node.NodeId.{NodeId}
use Rattle.kb_node.specs.declared.job.Job.TheVariants.{Reduce, Orient, Overlap}
use Rattle.mkb_model.specs.Jobs.{ref_le}
use Rattle.mkb_model.specs.Plain.{Plain, label, label_at, rule_kind, other, is_equation, is_rule, rules_of, done_of, known}
use Rattle.mkb_model.specs.DueJobs.{is_usable, is_open, reducers, is_node_of, is_reducible, is_work_due}
use Rattle.mkb_model.proofs.Lists.{clash, not_true, any_in, in_any, filter_in, in_filter}
use Rattle.mkb_moves.proofs.Sight.{beyond}

-- ---- lists of which one passes

any_same : {X : Type 0} (f g : X → Bool) → ((x : X) → f x ≡ g x) → (xs : List X) → list_any f xs ≡ list_any g xs
any_same f g h [] = refl
any_same f g h (x ∷ xs) = ap₂ (λ (y z : Bool). y || z) (h x) (any_same f g h xs)

-- what passes in one list passes in the other
pub any_carried : {X : Type 0} (f g : X → Bool) (xs ys : List X) → ((x : X) → Contains xs x → f x ≡ true → Contains ys x × (g x ≡ true)) → list_any f xs ≡ true → list_any g ys ≡ true
any_carried f g xs ys h k = let r = any_in f xs k in let s = h r.0 r.1 r.2 in in_any g ys r.0 s.0 s.1

-- ---- nodes that are not there

pub node_beyond : (b : Plain) (p : Name) (m : ℕ) → length b.nodes ≤ m → is_node_of b p m ≡ false
node_beyond b p m h = or_from (is_equation b p m) (is_rule b p (record { node = m; dir = 0 }) || is_rule b p (record { node = m; dir = 1 })) (beyond b.nodes p m E h)
    (or_from (is_rule b p (record { node = m; dir = 0 })) (is_rule b p (record { node = m; dir = 1 })) (beyond b.nodes p m R0 h) (beyond b.nodes p m R1 h))

pub no_reduce_beyond : (b : Plain) (p : Name) (n : NodeId) → length b.nodes ≤ n.0 → is_work_due b (Reduce p n) ≡ false
no_reduce_beyond b p n h = ap (λ z. z && is_reducible b p n.0) (node_beyond b p n.0 h)

pub no_orient_beyond : (b : Plain) (p : Name) (n : NodeId) → length b.nodes ≤ n.0 → is_work_due b (Orient p n) ≡ false
no_orient_beyond b p n h = ap (λ z. z && not (has (label b n.0 X) p)) (beyond b.nodes p n.0 E h)

-- ---- two boards

module _ (b c : Plain) (p q : Name) where
  -- the label of the kind at the node names q on the later board where it named p on the earlier one
  abbrev pub IsSameAt : ℕ → LabelKind → Type 0
  IsSameAt m j = has (label_at c.nodes m j) q ≡ has (label_at b.nodes m j) p

  pub node_same : (m : ℕ) → IsSameAt m E → ((d : ℕ) → IsSameAt m (rule_kind d)) → is_node_of c q m ≡ is_node_of b p m
  node_same m e r = ap₂ (λ (x y : Bool). x || y) e (ap₂ (λ (x y : Bool). x || y) (r 0) (r 1))

  usable_same : (m w : ℕ) → IsSameAt m E → ((d : ℕ) → IsSameAt m (rule_kind d)) → (v : Found) → is_usable c q m w v ≡ is_usable b p m w v
  usable_same m w e r No = refl
  usable_same m w e r Variant = ap₂ (λ (x y : Bool). x || y) e (r (other w))
  usable_same m w e r Strict = refl

  pub open_same : (m w : ℕ) → IsSameAt m E → ((d : ℕ) → IsSameAt m (rule_kind d)) → (o : Option Found) → is_open c q m w o ≡ is_open b p m w o
  open_same m w e r None = refl
  open_same m w e r (Some v) = usable_same m w e r v

  -- a side and a rule of which the same is known
  pub side_same : (m w : ℕ) (a : RuleRef) → IsSameAt m E → ((d : ℕ) → IsSameAt m (rule_kind d)) → known c m w a ≡ known b m w a → is_open c q m w (known c m w a) ≡ is_open b p m w (known b m w a)
  side_same m w a e r k = ap (is_open c q m w) k ∙ open_same m w e r (known b m w a)

  pub reduce_same : (n : NodeId) → IsSameAt n.0 E → ((d : ℕ) → IsSameAt n.0 (rule_kind d)) → rules_of c q ≡ rules_of b p → ((w : ℕ) (a : RuleRef) → known c n.0 w a ≡ known b n.0 w a) → is_work_due c (Reduce q n) ≡ is_work_due b (Reduce p n)
  reduce_same n e r s k = ap₂ (λ (x y : Bool). x && y) (node_same n.0 e r)
      (ap (λ (rs : List RuleRef). list_any (λ (a : RuleRef). list_any (λ w. is_open c q n.0 w (known c n.0 w a)) (0 ∷ 1 ∷ [])) (filter (λ (a : RuleRef). not (a.node == n.0)) rs)) s
      ∙ any_same (λ (a : RuleRef). list_any (λ w. is_open c q n.0 w (known c n.0 w a)) (0 ∷ 1 ∷ [])) (λ (a : RuleRef). list_any (λ w. is_open b p n.0 w (known b n.0 w a)) (0 ∷ 1 ∷ []))
      (λ a. any_same (λ w. is_open c q n.0 w (known c n.0 w a)) (λ w. is_open b p n.0 w (known b n.0 w a)) (λ w. side_same n.0 w a e r (k w a)) (0 ∷ 1 ∷ [])) (reducers b p n.0))

  pub orient_same : (n : NodeId) → IsSameAt n.0 E → IsSameAt n.0 X → is_work_due c (Orient q n) ≡ is_work_due b (Orient p n)
  orient_same n e x = ap₂ (λ (y z : Bool). y && not z) e x

  pub overlap_same : (a e : RuleRef) → IsSameAt a.node (rule_kind a.dir) → IsSameAt e.node (rule_kind e.dir) → has (done_of c a e) q ≡ has (done_of b a e) p → is_work_due c (Overlap q a e) ≡ is_work_due b (Overlap p a e)
  overlap_same a e r s d = ap₂ (λ (x y : Bool). x && (ref_le a e && not y)) (ap₂ (λ (x y : Bool). x && y) r s) d

  -- what is open stays so where a variant that was of use is
  pub open_carried : (m w : ℕ) → (is_usable b p m w Variant ≡ true → is_usable c q m w Variant ≡ true) → (o : Option Found) → is_open b p m w o ≡ true → is_open c q m w o ≡ true
  open_carried m w h None o = refl
  open_carried m w h (Some No) o = o
  open_carried m w h (Some Variant) o = h o
  open_carried m w h (Some Strict) o = refl

  -- a Reduce stays due where the node is still one of the process, its rules are, and what is open is
  pub reduce_carried : (n : NodeId) → (is_node_of b p n.0 ≡ true → is_node_of c q n.0 ≡ true) → ((a : RuleRef) → a.node ≢ n.0 → Contains (rules_of b p) a → Contains (rules_of c q) a)
      → ((w : ℕ) (a : RuleRef) → is_open b p n.0 w (known b n.0 w a) ≡ true → is_open c q n.0 w (known c n.0 w a) ≡ true) → is_work_due b (Reduce p n) ≡ true → is_work_due c (Reduce q n) ≡ true
  reduce_carried n node rules opened h = and_from (is_node_of c q n.0) (is_reducible c q n.0) (node (and_gives_left (is_node_of b p n.0) (is_reducible b p n.0) h))
      (any_carried (λ (a : RuleRef). list_any (λ w. is_open b p n.0 w (known b n.0 w a)) (0 ∷ 1 ∷ [])) (λ (a : RuleRef). list_any (λ w. is_open c q n.0 w (known c n.0 w a)) (0 ∷ 1 ∷ [])) (reducers b p n.0) (reducers c q n.0)
      (λ a i o. let r = filter_in (λ (a : RuleRef). not (a.node == n.0)) (rules_of b p) a i in (
        in_filter (λ (a : RuleRef). not (a.node == n.0)) (rules_of c q) a (rules a (λ e. clash (eq-eqb a.node n.0 e) (not_true r.1)) r.0) r.1,
        any_carried (λ w. is_open b p n.0 w (known b n.0 w a)) (λ w. is_open c q n.0 w (known c n.0 w a)) (0 ∷ 1 ∷ []) (0 ∷ 1 ∷ []) (λ w j k. (j, opened w a k)) o,
      ))
      (and_gives_right (is_node_of b p n.0) (is_reducible b p n.0) h))
