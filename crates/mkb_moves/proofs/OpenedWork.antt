-- Which work new pairs and a new rule make due, and which is shared at a fork.
use Rattle.std.proofs.Common.{length, length-append, map, ℕ, zero, suc, ◌<◌, ◌≡◌, ◌≢◌, ◌⊎◌, ◌↔◌, inl, inr, refl, sym, ap, ap₂, ◌∙◌, subst, eqb→eq, arith, List, [], ◌∷◌, Contains, Bool, true, false, cond, not, ◌&&◌, ◌||◌, ◌==◌, ⊎_elim}
use Rattle.std.specs.Prelude.{T}
use Rattle.std.proofs.lemmas.Bool.{and_from, and_right, or_cases, or_left, or_right}
use Rattle.kb_lemmas.proofs.Booleans.{and_gives_left, and_gives_right}
use Rattle.kb_term.specs.Signature.{Problem}
use Rattle.kb_term.specs.declared.origin.RuleRef.{RuleRef}
use Rattle.kb_cert.specs.declared.certificate.Certificate.{Certificate}
use Rattle.kb_label.specs.Names.{Name, has, child, relabel, join}
use Rattle.kb_node.specs.declared.node.NodeId.{NodeId}
use Rattle.kb_node.specs.declared.node.LabelKind.{LabelKind}
use Rattle.kb_node.specs.declared.node.LabelKind.TheVariants.{E, X}
use Rattle.kb_node.specs.declared.job.Deduced.{Deduced}
use Rattle.kb_node.specs.declared.job.Job.{Job}
use Rattle.kb_node.specs.declared.job.Job.TheVariants.{Reduce, Orient, Overlap, Close}
use Rattle.mkb_model.specs.Jobs.{process_of, ref_eq, ref_le}
use Rattle.mkb_model.specs.Plain.{Plain, PlainNode, Done, label_at, rule_kind, other, is_equation, is_rule, done_in, done_of, known, is_over}
use Rattle.mkb_model.specs.DueJobs.{is_open, is_working, is_due}
use Rattle.mkb_model.specs.Effects.{counted, applied, forked_node, added, oriented, overlap_label, gains_done_in}
use Rattle.mkb_model.specs.Ready.{IsOn}
use Rattle.mkb_model.specs.Journals.{Moment, IsPossibleRun, IsCommitting, landed}
use Rattle.mkb_model.specs.Sleeping.{settle}
use Rattle.mkb_model.proofs.closing.RestInRuns.{Stands, stands_run}
use Rattle.mkb_model.proofs.runs.AllFine.{children_new}
use Rattle.mkb_model.proofs.runs.Simulation.{begins-child}
use Rattle.mkb_model.proofs.tickets.InFlight.{due_working}
use Rattle.kb_lemmas.proofs.Membership.{contains_first, contains_behind}
use Rattle.mkb_model.specs.declared.entry.Effect.TheVariants.{Made}
use Rattle.mkb_model.specs.declared.proposed.Proposed.TheVariants.{One, Both, Deduce, Unjoined}
use Rattle.mkb_model.specs.declared.settings.Settings.{Settings}
use Rattle.mkb_model.proofs.Lists.{clash, false_unless, not_of_true}
use Rattle.mkb_model.proofs.commits.Roles.{on_there, label-fork, relabel-child}
use Rattle.mkb_model.proofs.commits.RoleChanges.{Fits}
use Rattle.mkb_model.proofs.commits.Orienting.{OrientRoles, orient-roles, self}
use Rattle.mkb_model.proofs.commits.Commits.{orients, bit_number}
use Rattle.mkb_model.proofs.closing.LeftAlone.{IsBit}
use Rattle.mkb_moves.specs.Changes.{IsDueAsBefore, IsNodeOfOne, IsOnPairs, IsStillDue, OpensPairs, EndsOverlapByBoth, IsAnother, LeavesOtherWork, SharesWork}
use Rattle.mkb_moves.proofs.Sight.{kept_test, same_rules, rules_are, rule_ref, same_direction}
use Rattle.mkb_moves.proofs.Makes.{IsMaking, making, commit_fits}
use Rattle.mkb_moves.proofs.Added.{IsNewPair, added-others, added-equations, rule_other, deduce_adds}
use Rattle.mkb_moves.proofs.Turning.{direction_bit, child_roles, forks}
use Rattle.mkb_moves.proofs.Refused.{refusals_added, refusals_oriented}
use Rattle.mkb_moves.proofs.DueWork.{IsSameAt, node_same, side_same, open_carried, reduce_same, orient_same, overlap_same, reduce_carried}

-- ---- references that are equal

ref_is : (a c : RuleRef) → ref_eq a c ≡ true → a ≡ c
ref_is a c h = rule_ref c a (equal a.node c.node (and_gives_left (a.node == c.node) (a.dir == c.dir) h)) (equal a.dir c.dir (and_gives_right (a.node == c.node) (a.dir == c.dir) h))
  where
    equal : (m n : ℕ) → (m == n) ≡ true → m ≡ n
    equal m n e = eqb→eq m n (subst {A = Bool} T (sym e) tt)

-- ---- new pairs

-- at two other rules the noted overlaps are what they were
done_elsewhere : (a c : RuleRef) (l : List Name) (x y : RuleRef) → (a ≡ x → c ≢ y) → (ds : List Done) → done_in (gains_done_in a c l ds) x y ≡ done_in ds x y
done_elsewhere a c l x y apart [] = ap (λ z. cond z l []) (false_unless (ref_eq a x && ref_eq c y) (λ e. apart (ref_is a x (and_gives_left (ref_eq a x) (ref_eq c y) e)) (ref_is c y (and_gives_right (ref_eq a x) (ref_eq c y) e))))
done_elsewhere a c l x y apart (d ∷ ds) = go (ref_eq d.first a && ref_eq d.second c) refl (done_elsewhere a c l x y apart ds)
  where
    go : (z : Bool) → (ref_eq d.first a && ref_eq d.second c) ≡ z → done_in (gains_done_in a c l ds) x y ≡ done_in ds x y → done_in (cond z (record d { names = join d.names l } ∷ ds) (d ∷ gains_done_in a c l ds)) x y ≡ done_in (d ∷ ds) x y
    go true e ih =
        let no : (ref_eq d.first x && ref_eq d.second y) ≡ false = false_unless (ref_eq d.first x && ref_eq d.second y) (λ k. apart
        (sym (ref_is d.first a (and_gives_left (ref_eq d.first a) (ref_eq d.second c) e)) ∙ ref_is d.first x (and_gives_left (ref_eq d.first x) (ref_eq d.second y) k))
        (sym (ref_is d.second c (and_gives_right (ref_eq d.first a) (ref_eq d.second c) e)) ∙ ref_is d.second y (and_gives_right (ref_eq d.first x) (ref_eq d.second y) k))) in
        ap (λ z. cond z (join d.names l) (done_in ds x y)) no ∙ sym (ap (λ z. cond z d.names (done_in ds x y)) no)
    go false e ih = ap (λ (ns : List Name). cond (ref_eq d.first x && ref_eq d.second y) d.names ns) ih

-- a process that gains the pairs
module _ (b c : Plain) (p : Name) (l : List Name) (ds : List Deduced) (named : has l p ≡ true) (nodes : c.nodes ≡ added l ds b.nodes) (fits : Fits c.nodes) (facts : c.facts ≡ b.facts) where
  other_same : (m : ℕ) (j : LabelKind) → j ≢ E → IsSameAt b c p p m j
  other_same m j h = kept_test b.nodes c.nodes p p m j (subst {A = List PlainNode} (λ zs. IsOn zs p m j ↔ IsOn b.nodes p m j) (sym nodes) (added-others l ds b.nodes p named m j h))

  rule_same : (m d : ℕ) → IsSameAt b c p p m (rule_kind d)
  rule_same m d = other_same m (rule_kind d) (rule_other d)

  refused_same : (m : ℕ) → IsSameAt b c p p m X
  refused_same m = ap (λ ys. has (label_at ys m X) p) nodes ∙ ap (λ ns. has ns p) (refusals_added l ds b.nodes m)

  equations : (m : ℕ) → IsOn c.nodes p m E ↔ (IsOn b.nodes p m E ⊎ IsNewPair ds c.nodes b.nodes p m)
  equations = subst {A = List PlainNode} (λ zs. (m : ℕ) → IsOn zs p m E ↔ (IsOn b.nodes p m E ⊎ IsNewPair ds zs b.nodes p m)) (sym nodes) (added-equations l ds b.nodes p named (subst {A = List PlainNode} Fits nodes fits))

  equation_same : (m : ℕ) → ¬ IsNodeOfOne c ds m → IsSameAt b c p p m E
  equation_same m h = kept_test b.nodes c.nodes p p m E ((λ o. ⊎_elim (λ k. k) (λ k. absurd (h (k.0, k.1, k.2))) ((equations m).0 o)), λ o. (equations m).1 (inl o))

  equation_stays : (m : ℕ) → is_equation b p m ≡ true → is_equation c p m ≡ true
  equation_stays m o = (equations m).1 (inl o)

  known_same : (n w : ℕ) (a : RuleRef) → known c n w a ≡ known b n w a
  known_same n w a = ap (λ fs. known (record b { facts = fs }) n w a) facts

  pairs_leave : (j : Job) → process_of j ≡ p → ¬ IsOnPairs c ds j → ((a e : RuleRef) → j ≡ Overlap p a e → has (done_of c a e) p ≡ has (done_of b a e) p) → IsDueAsBefore b c j
  pairs_leave (Reduce q n) e h k = subst {A = Name} (λ z. IsDueAsBefore b c (Reduce z n)) (sym e) (reduce_same b c p p n (equation_same n.0 h) (rule_same n.0) (same_rules b c p p (λ d m. rule_same m d)) (known_same n.0))
  pairs_leave (Orient q n) e h k = subst {A = Name} (λ z. IsDueAsBefore b c (Orient z n)) (sym e) (orient_same b c p p n (equation_same n.0 h) (refused_same n.0))
  pairs_leave (Overlap q a d) e h k = subst {A = Name} (λ z. IsDueAsBefore b c (Overlap z a d)) (sym e) (overlap_same b c p p a d (rule_same a.node a.dir) (rule_same d.node d.dir) (k a d (ap (λ z. Overlap z a d) e)))
  pairs_leave (Close q) e h k = refl

  -- with the node as an equation or not before, a rule of it stays
  either : (m : ℕ) (x y : Bool) → y ≡ x → (is_equation b p m || x) ≡ true → (is_equation c p m || y) ≡ true
  either m x y e u = ⊎_elim (λ k. or_left (is_equation c p m) y (equation_stays m k)) (λ k. or_right (is_equation c p m) y (e ∙ k)) (or_cases (is_equation b p m) x u)

  pairs_open : (j : Job) → process_of j ≡ p → IsOnPairs c ds j → IsStillDue b c j
  pairs_open (Reduce q n) e h = subst {A = Name} (λ z. IsStillDue b c (Reduce z n)) (sym e) (reduce_carried b c p p n
      (either n.0 (is_rule b p (record { node = n.0; dir = 0 }) || is_rule b p (record { node = n.0; dir = 1 })) (is_rule c p (record { node = n.0; dir = 0 }) || is_rule c p (record { node = n.0; dir = 1 })) (ap₂ (λ (y z : Bool). y || z) (rule_same n.0 0) (rule_same n.0 1)))
      (λ a _ i. subst {A = List RuleRef} (λ rs. Contains rs a) (sym (same_rules b c p p (λ d m. rule_same m d))) i)
      (λ w a o. ap (is_open c p n.0 w) (known_same n.0 w a) ∙ open_carried b c p p n.0 w (either n.0 (is_rule b p (record { node = n.0; dir = other w })) (is_rule c p (record { node = n.0; dir = other w })) (rule_same n.0 (other w))) (known b n.0 w a) o))
  pairs_open (Orient q n) e h = subst {A = Name} (λ z. IsStillDue b c (Orient z n)) (sym e) (λ u. and_from (is_equation c p n.0) (not (has (label_at c.nodes n.0 X) p))
      (equation_stays n.0 (and_gives_left (is_equation b p n.0) (not (has (label_at b.nodes n.0 X) p)) u)) (ap not (refused_same n.0) ∙ and_gives_right (is_equation b p n.0) (not (has (label_at b.nodes n.0 X) p)) u))
  pairs_open (Overlap q a d) e h = absurd h
  pairs_open (Close q) e h = absurd h

pub deduce_opens : (P : Problem) (n : Settings) (past : List Moment) (b : Plain) → IsPossibleRun P n past b → (w t : ℕ) (a c : RuleRef) (ds : List Deduced) (next : Plain) → IsCommitting past b w t (Made (Deduce a c ds)) next → EndsOverlapByBoth b next a c ds
deduce_opens P n past b run w t a c ds next f p named = record {
  ended = and_right (is_rule next p a && is_rule next p c) (ref_le a c && not (has (done_of next a c) p)) (and_right (ref_le a c) (not (has (done_of next a c) p)) (not_of_true (deduce_adds P n past b run w t a c ds next f p named).1));
  elsewhere = λ j own other apart. pairs_leave b next p (overlap_label b a c) ds named nodes fits facts j own apart
      (λ x y is. ap (λ us. has (done_in us x y) p) (ap (λ (z : Plain). z.done) k.leads_to) ∙ ap (λ ns. has ns p) (done_elsewhere a c (overlap_label b a c) x y (λ i o. other (is ∙ sym (ap (λ z. Overlap p z y) i) ∙ sym (ap (Overlap p a) o))) b.done));
  there = pairs_open b next p (overlap_label b a c) ds named nodes fits facts;
}
  where
    k : IsMaking past b w t (Deduce a c ds) next
    k = making past b w t (Deduce a c ds) next f

    nodes : next.nodes ≡ added (overlap_label b a c) ds b.nodes
    nodes = ap (λ (z : Plain). z.nodes) k.leads_to

    fits : Fits next.nodes
    fits = commit_fits P n past b w t (Made (Deduce a c ds)) next run f

    facts : next.facts ≡ b.facts
    facts = ap (λ (z : Plain). z.facts) k.leads_to

pub unjoined_opens : (P : Problem) (n : Settings) (past : List Moment) (b : Plain) → IsPossibleRun P n past b → (w t : ℕ) (p : Name) (ds : List Deduced) (next : Plain) → IsCommitting past b w t (Made (Unjoined p ds)) next → OpensPairs b next p ds
unjoined_opens P n past b run w t p ds next f =
    let e = (making past b w t (Unjoined p ds) next f).leads_to in
    let fits : Fits next.nodes = commit_fits P n past b w t (Made (Unjoined p ds)) next run f in
    record {
      elsewhere = λ j own apart. pairs_leave b next p (p ∷ []) ds (self p) (ap (λ (z : Plain). z.nodes) e) fits (ap (λ (z : Plain). z.facts) e) j own apart (λ x y is. ap (λ us. has (done_in us x y) p) (ap (λ (z : Plain). z.done) e));
      there = pairs_open b next p (p ∷ []) ds (self p) (ap (λ (z : Plain). z.nodes) e) fits (ap (λ (z : Plain). z.facts) e);
    }

-- ---- a new rule

pub bit_below : (d : ℕ) → d < 2 → IsBit d
bit_below zero h = inl refl
bit_below (suc zero) h = inr refl
bit_below (suc (suc d)) h = absurd (omega (arith, h))

module _ (b c : Plain) (p q : Name) (a : RuleRef) (bit : IsBit a.dir) (roles : OrientRoles b.nodes p c.nodes q a) (on : is_equation b p a.node ≡ true) (refused : (m : ℕ) → IsSameAt b c p q m X) (done : (e f : RuleRef) → has (done_of c e f) q ≡ has (done_of b e f) p) (facts : c.facts ≡ b.facts) where
  equation_kept : (m : ℕ) → m ≢ a.node → IsSameAt b c p q m E
  equation_kept m h = kept_test b.nodes c.nodes p q m E ((λ o. ⊎_elim (λ k. k.0) (λ k. absurd k.1) ((roles.equations m).0 o)), λ o. (roles.equations m).1 (inl (o, λ k. h k.0)))

  -- each rule stays
  rule_stays : (m d : ℕ) → IsOn b.nodes p m (rule_kind d) → IsOn c.nodes q m (rule_kind d)
  rule_stays m d o = (roles.rules m d).1 (inl (o, λ k. k.2))

  -- and no other one is new
  rule_kept : (m d : ℕ) → ¬ ((m ≡ a.node) × (rule_kind d ≡ rule_kind a.dir)) → IsSameAt b c p q m (rule_kind d)
  rule_kept m d h = kept_test b.nodes c.nodes p q m (rule_kind d) ((λ o. ⊎_elim (λ k. k.0) (λ k. absurd (h (k.0, k.1))) ((roles.rules m d).0 o)), rule_stays m d)

  another_kept : (e : RuleRef) → IsAnother a e → IsSameAt b c p q e.node (rule_kind e.dir)
  another_kept e h = rule_kept e.node e.dir (λ k. h.1 (rule_ref a e k.0 (same_direction e.dir a.dir (bit_below e.dir h.0) bit k.1)))

  known_kept : (n w : ℕ) (e : RuleRef) → known c n w e ≡ known b n w e
  known_kept n w e = ap (λ fs. known (record b { facts = fs }) n w e) facts

  had : (m : ℕ) → m ≡ a.node → is_equation b p m ≡ true
  had m e = subst {A = ℕ} (λ z. is_equation b p z ≡ true) (sym e) on

  pub leaves_other_work : LeavesOtherWork b p c q a
  leaves_other_work = record {
    oriented = λ n e. ap (λ z. z && not (has (label_at c.nodes n.0 X) q)) (false_unless (is_equation c q n.0) (λ o. ⊎_elim (λ k. k.1 (e, tt)) (λ k. k.1) ((roles.equations n.0).0 o)));
    orients = λ n h. orient_same b c p q n (equation_kept n.0 h) (refused n.0);
    overlaps = λ e f h k. overlap_same b c p q e f (another_kept e h) (another_kept f k) (done e f);
    reduced = λ n e. reduce_carried c b q p n (λ o. or_left (is_equation b p n.0) (is_rule b p (record { node = n.0; dir = 0 }) || is_rule b p (record { node = n.0; dir = 1 })) (had n.0 e))
        (λ d away i. let r = (rules_are c q d).0 i in (rules_are b p d).1 (r.0, sym (rule_kept d.node d.dir (λ k. away (k.0 ∙ sym e))) ∙ r.1))
        (λ w d o. open_carried c b q p n.0 w (λ u. or_left (is_equation b p n.0) (is_rule b p (record { node = n.0; dir = other w })) (had n.0 e)) (known b n.0 w d) (sym (ap (is_open c q n.0 w) (known_kept n.0 w d)) ∙ o));
    reduces = λ n h. reduce_carried b c p q n (λ o. node_same b c p q n.0 (equation_kept n.0 h) (λ d. rule_kept n.0 d (λ k. h k.0)) ∙ o)
        (λ e _ i. let r = (rules_are b p e).0 i in (rules_are c q e).1 (r.0, rule_stays e.node e.dir r.1))
        (λ w e o. side_same b c p q n.0 w e (equation_kept n.0 h) (λ d. rule_kept n.0 d (λ k. h k.0)) (known_kept n.0 w e) ∙ o);
  }

pub one_leaves : (past : List Moment) (b : Plain) (w t : ℕ) (p : Name) (n : NodeId) (d : ℕ) (c : Certificate) (next : Plain) → IsCommitting past b w t (Made (One p n d c)) next → LeavesOtherWork b p next p (record { node = n.0; dir = d })
one_leaves past b w t p n d c next f = leaves_other_work b next p p a (direction_bit k.finishing.before k.job p n d c k.finishing.proposed)
    (subst {A = List PlainNode} (λ zs. OrientRoles b.nodes p zs p a) (sym nodes) (orient-roles p a b.nodes (on_there b.nodes p n.0 E (orients b p n.0 k.acts))))
    (orients b p n.0 k.acts) (λ m. ap (λ zs. has (label_at zs m X) p) nodes ∙ ap (λ ns. has ns p) (refusals_oriented p a b.nodes m))
    (λ e f. ap (λ (z : Plain). has (done_of z e f) p) k.leads_to) (ap (λ (z : Plain). z.facts) k.leads_to)
  where
    k : IsMaking past b w t (One p n d c) next
    k = making past b w t (One p n d c) next f

    a : RuleRef
    a = record { node = n.0; dir = d }

    nodes : next.nodes ≡ oriented p a b.nodes
    nodes = ap (λ (z : Plain). z.nodes) k.leads_to

-- ---- a fork

-- the overlaps of a child are those that were noted of the forked process
done_child : (p : Name) (bit : Bool) (ds : List Done) → ((d : Done) → Contains ds d → has d.names (child p bit) ≡ false) → (x y : RuleRef) → has (done_in (map (λ (d : Done). record d { names = relabel p d.names }) ds) x y) (child p bit) ≡ has (done_in ds x y) p
done_child p bit [] new x y = refl
done_child p bit (d ∷ ds) new x y = go (ref_eq d.first x && ref_eq d.second y) (done_child p bit ds (λ e i. new e (contains_behind d ds e i)) x y)
  where
    go : (z : Bool) → has (done_in (map (λ (d : Done). record d { names = relabel p d.names }) ds) x y) (child p bit) ≡ has (done_in ds x y) p
        → has (cond z (relabel p d.names) (done_in (map (λ (d : Done). record d { names = relabel p d.names }) ds) x y)) (child p bit) ≡ has (cond z d.names (done_in ds x y)) p
    go true ih = relabel-child p bit d.names (new d (contains_first d ds))
    go false ih = ih

module _ (P : Problem) (n : Settings) (past : List Moment) (b : Plain) (run : IsPossibleRun P n past b) (w t : ℕ) (p : Name) (m : NodeId) (c0 c1 : Certificate) (next : Plain) (f : IsCommitting past b w t (Made (Both p m c0 c1)) next) where
  leads_to : next ≡ landed t (settle (counted (applied b (Both p m c0 c1))))
  leads_to = (making past b w t (Both p m c0 c1) next f).leads_to

  stands : Stands b
  stands = stands_run P n past b run

  on : is_equation b p m.0 ≡ true
  on = orients b p m.0 (making past b w t (Both p m c0 c1) next f).acts

  lives : has b.living p ≡ true
  lives = ((stands_run P n past b run).labelled.nodes m.0 E).lives p (orients b p m.0 (making past b w t (Both p m c0 c1) next f).acts)

  -- the children are new
  unborn : (bit : Bool) → has b.living (child p bit) ≡ false
  unborn bit = false_unless (has b.living (child p bit)) (λ o.
      let e : p ≡ child p bit = (stands_run P n past b run).apart p (child p bit) lives o (begins-child p bit) in
      let i : length p ≡ length (child p bit) = ap length e in
      let k = length-append p (bit ∷ []) in
      omega (arith, i, k))

  refused_shared : (bit : Bool) (k : ℕ) → IsSameAt b next p (child p bit) k X
  refused_shared bit k = ap (λ (z : Plain). has (label_at z.nodes k X) (child p bit)) leads_to
      ∙ ap (λ ns. has ns (child p bit)) (refusals_oriented (child p true) (record { node = m.0; dir = 1 }) (oriented (child p false) (record { node = m.0; dir = 0 }) (map (forked_node p) b.nodes)) k
      ∙ refusals_oriented (child p false) (record { node = m.0; dir = 0 }) (map (forked_node p) b.nodes) k ∙ label-fork p b.nodes k X)
      ∙ relabel-child p bit (label_at b.nodes k X) (children_new b p stands lives bit k X)

  done_shared : (bit : Bool) (x y : RuleRef) → has (done_of next x y) (child p bit) ≡ has (done_of b x y) p
  done_shared bit x y = ap (λ (z : Plain). has (done_of z x y) (child p bit)) leads_to
      ∙ done_child p bit b.done (λ d i. false_unless (has d.names (child p bit)) (λ o. clash (((stands_run P n past b run).labelled.done d i).lives (child p bit) o) (unborn bit))) x y

  shares : (bit : Bool) → IsBit (bit_number bit) → LeavesOtherWork b p next (child p bit) (record { node = m.0; dir = bit_number bit })
  shares bit h = leaves_other_work b next p (child p bit) (record { node = m.0; dir = bit_number bit }) h (child_roles P n past b run w t p m c0 c1 next f bit) on (refused_shared bit) (done_shared bit) (ap (λ (z : Plain). z.facts) leads_to)

  pub fork_shares : SharesWork b p next m.0
  fork_shares = record {
    gone = λ j e. false_unless (is_due next j) (λ h. clash (due_working next j h) (subst {A = Name} (λ q. is_working next q ≡ false) (sym e) (ap (λ z. z && not (is_over next p)) (forks P n past b run w t p m c0 c1 next f).gone)));
    first = shares false (inl refl);
    second = shares true (inr refl);
  }
