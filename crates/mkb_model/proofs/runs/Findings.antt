-- Facts that are proposed were not known, and still aren't when they are committed.
use Rattle.std.proofs.Common.{ℕ, ◌≡◌, ◌≢◌, ◌⊎◌, inl, inr, refl, sym, ap, ◌∙◌, subst, arith, List, [], ◌∷◌, ◌++◌, map, filter, Contains, Bool, true, false, cond, ◌&&◌, ◌==◌, Option, Some, None, ⊎_elim}
use Rattle.std.specs.Prelude.{is_none, option_map}
use Rattle.std.specs.List.{find, list_any}
use Rattle.std.specs.Option.{option_map_or}
use Rattle.std.proofs.lemmas.Bool.{eq-eqb, and_from, and_left}
use Rattle.kb_lemmas.proofs.Membership.{contains_cases, contains_behind, contains_first, none_in, contains_mapped, contains_map, contains_flat_map}
use Rattle.kb_lemmas.proofs.Booleans.{and_gives_right}
use Rattle.kb_lemmas.proofs.Options.{none_some}
use Rattle.kb_term.specs.Substitution.{instance}
use Rattle.kb_term.specs.Tree.{variable}
use Rattle.kb_term.specs.Rule.{Rule}
use Rattle.kb_term.specs.Signature.{Problem}
use Rattle.kb_term.specs.declared.origin.RuleRef.{RuleRef}
use Rattle.kb_term.specs.declared.origin.Found.{Found}
use Rattle.kb_term.specs.declared.origin.Found.TheVariants.{No, Variant, Strict}
use Rattle.kb_overlap.specs.Trace.{side}
use Rattle.kb_rewrite.specs.NormalForm.{IsFound}
use Rattle.kb_label.specs.Names.{Name}
use Rattle.kb_label.specs.declared.verdict.Reason.{Reason}
use Rattle.kb_node.specs.declared.node.NodeId.{NodeId}
use Rattle.kb_node.specs.declared.job.Fact.{Fact}
use Rattle.kb_node.specs.declared.job.Job.{Job}
use Rattle.kb_node.specs.declared.job.Job.TheVariants.{Reduce, Orient, Overlap, Close}
use Rattle.mkb_model.specs.Jobs.{ref_eq, clashes}
use Rattle.mkb_model.specs.Plain.{Plain, known, rule_at}
use Rattle.mkb_model.specs.DueJobs.{reducers, is_usable, is_open, is_reducible, is_node_of, is_working, is_work_due, is_due}
use Rattle.mkb_model.specs.Effects.{applied, effect, limit_of, give_up, effect_label}
use Rattle.mkb_model.specs.Proposals.{Proposes, NamedRule, unknown}
use Rattle.mkb_model.specs.Invariants.{FactsHold}
use Rattle.mkb_model.specs.Journals.{Moment, Follows, IsPossibleRun, IsFreeJob}
use Rattle.mkb_model.specs.declared.proposed.Proposed.{Proposed}
use Rattle.mkb_model.specs.declared.proposed.Proposed.TheVariants.{Facts, Rewrite, One, Both, Refuse, Deduce, Unjoined, Closed, Limit}
use Rattle.mkb_model.specs.declared.entry.Effect.{Effect}
use Rattle.mkb_model.specs.declared.entry.Ticket.{Ticket}
use Rattle.mkb_model.specs.declared.entry.Entry.TheVariants.{Take, Commit}
use Rattle.mkb_model.proofs.Lists.{clash, in_filter, in_filter_map, any_in, find_none, false_unless}
use Rattle.mkb_model.proofs.tickets.NoClash.{flight_clear}
use Rattle.mkb_model.proofs.tickets.InFlight.{two_clear}
use Rattle.mkb_model.proofs.closing.LeftAlone.{known_rule, known_holds}
use Rattle.mkb_model.proofs.closing.Completed.{ref_self}
use Rattle.mkb_model.proofs.closing.Staying.{since}
use Rattle.mkb_model.specs.declared.settings.Settings.{Settings}

-- the fact is about this side and this rule
abbrev pub is_about : ℕ → ℕ → RuleRef → Fact → Bool
is_about n w a f = (f.node.0 == n) && ((f.side == w) && ref_eq f.rule a)

-- ---- what is missing at the take

-- a rule of which nothing is known on a side
abbrev IsMissing : Plain → Name → ℕ → List Fact → Type 0
IsMissing b p n fs = (g : Fact) × Contains fs g × (g.node.0 ≡ n) × (known b n g.side g.rule ≡ None)

pub missing_some : (b : Plain) (p : Name) (m : NodeId) (fs : List Fact) → is_due b (Reduce p m) ≡ true → FactsHold b → Proposes b (Reduce p m) (Facts fs) → IsMissing b p m.0 fs
missing_some b p m fs due facts h = open_one (known b m.0 w a) refl (any_side.2)
  where
    reducible : is_reducible b p m.0 ≡ true
    reducible = and_gives_right (is_node_of b p m.0) (is_reducible b p m.0) (and_gives_right (is_working b p) (is_work_due b (Reduce p m)) due)

    any_rule : (a : RuleRef) × Contains (reducers b p m.0) a × (list_any (λ w. is_open b p m.0 w (known b m.0 w a)) (0 ∷ 1 ∷ []) ≡ true)
    any_rule = any_in (λ (a : RuleRef). list_any (λ w. is_open b p m.0 w (known b m.0 w a)) (0 ∷ 1 ∷ [])) (reducers b p m.0) reducible

    a : RuleRef
    a = any_rule.0

    any_side : (w : ℕ) × Contains (0 ∷ 1 ∷ []) w × (is_open b p m.0 w (known b m.0 w a) ≡ true)
    any_side = any_in (λ w. is_open b p m.0 w (known b m.0 w a)) (0 ∷ 1 ∷ []) any_rule.2

    w : ℕ
    w = any_side.0

    bit : (w ≡ 0) ⊎ (w ≡ 1)
    bit = ⊎_elim (λ e. inl (sym e)) (λ k. ⊎_elim (λ e. inr (sym e)) (λ z. none_in z) (contains_cases 1 [] w k)) (contains_cases 0 (1 ∷ []) w any_side.1)

    -- a usable variant is a redex that may be rewritten
    usable : (v : Found) → known b m.0 w a ≡ Some v → is_usable b p m.0 w v ≡ true → (v ≢ Strict) → (rule : Rule) → rule_at b a ≡ Some rule → IsFound (side h.0 w) rule v → ⊥
    usable No e u d rule there found = clash u refl
    usable Strict e u d rule there found = d refl
    usable Variant e u d rule there (r, back, v) = h.2.none_usable w [] a Variant (instance (λ x. variable (back x)) rule.right) (record {
      rule = rule;
      listed = in_filter_map (λ a. option_map {U = NamedRule} (λ r. record { ref = a; rule = r }) (rule_at b a)) (reducers b p m.0) a (record { ref = a; rule = rule }) any_rule.1 (ap (option_map {U = NamedRule} (λ r. record { ref = a; rule = r })) there);
      is_side = bit;
      rewrites = ((λ x. variable (back x)), record { redex = ap Some (sym v.back_again); result = refl });
      found = (r, back, v);
      may_be = u;
    })

    known_one : (v : Found) → known b m.0 w a ≡ Some v → is_usable b p m.0 w v ≡ true → ⊥
    known_one v e u =
        let r = known_rule b m.0 w a v facts e in
        let k = known_holds b m.0 w a v facts e h.0 h.1 r.0 r.1 in
        usable v e u k.1 r.0 r.1 k.0

    in_unknown : known b m.0 w a ≡ None → Contains (unknown b p m.0) (w, a)
    in_unknown e = contains_flat_map (λ w. map (λ a. (w, a)) (filter (λ a. is_none (known b m.0 w a)) (reducers b p m.0))) (0 ∷ 1 ∷ []) w (w, a) any_side.1
        (contains_map (λ a. (w, a)) (filter (λ a. is_none (known b m.0 w a)) (reducers b p m.0)) a (in_filter (λ a. is_none (known b m.0 w a)) (reducers b p m.0) a any_rule.1 (ap (λ (o : Option Found). is_none o) e)))

    open_one : (o : Option Found) → known b m.0 w a ≡ o → is_open b p m.0 w o ≡ true → IsMissing b p m.0 fs
    open_one None e u =
        let k = contains_mapped (λ (f : Fact). (f.side, f.rule)) fs (w, a) (subst {A = List (ℕ × RuleRef)} (λ xs. Contains xs (w, a)) (sym h.2.are_unknown) (in_unknown e)) in
        (k.0, k.1, h.2.at_node k.0 k.1, ap (λ (x : ℕ × RuleRef). known b m.0 x.0 x.1) k.2 ∙ e)
    open_one (Some v) e u = absurd (known_one v e u)

-- ---- what is missing stays missing

found_none : (f : Fact → Bool) (fs : List Fact) → ((g : Fact) → Contains fs g → f g ≡ false) → find f fs ≡ None
found_none f [] h = refl
found_none f (g ∷ fs) h = go (f g) (h g (contains_first g fs)) (found_none f fs (λ x i. h x (contains_behind g fs x i)))
  where
    go : (x : Bool) → x ≡ false → find f fs ≡ None → cond x (Some g) (find f fs) ≡ None
    go true e k = clash refl e
    go false e k = k

found_later : (f : Fact → Bool) (xs ys : List Fact) → find f xs ≡ None → find f (xs ++ ys) ≡ find f ys
found_later f [] ys h = refl
found_later f (x ∷ xs) ys h = go (f x) h (found_later f xs ys)
  where
    go : (y : Bool) → cond y (Some x) (find f xs) ≡ None → (find f xs ≡ None → find f (xs ++ ys) ≡ find f ys) → cond y (Some x) (find f (xs ++ ys)) ≡ find f ys
    go true k ih = none_some (sym k)
    go false k ih = ih k

-- the facts after a commit
abbrev AreAfter : Plain → Proposed → List Fact → Type 0
AreAfter b x gs = (gs ≡ b.facts) ⊎ ((fs : List Fact) × (x ≡ Facts fs) × (gs ≡ b.facts ++ fs))

facts_after : (b : Plain) (x : Proposed) → AreAfter b x (effect b x).facts
facts_after b x = go (limit_of b x)
  where
    of_applied : (y : Proposed) → AreAfter b y (applied b y).facts
    of_applied (Facts fs) = inr (fs, refl, refl)
    of_applied (Rewrite n w at a kind t) = inl refl
    of_applied (One p n d c) = inl refl
    of_applied (Both p n c0 c1) = inl refl
    of_applied (Refuse p n) = inl refl
    of_applied (Deduce a c ds) = inl refl
    of_applied (Unjoined p ds) = inl refl
    of_applied (Closed p) = inl refl
    of_applied (Limit j cause) = inl refl

    go : (o : Option Reason) → AreAfter b x (option_map_or (λ r. give_up r (effect_label b x) b) o (applied b x)).facts
    go None = of_applied x
    go (Some r) = inl refl

-- facts are about the node of their Reduce
about_node : (before : Plain) (j : Job) (fs : List Fact) → Proposes before j (Facts fs) → (q : Name) × (k : NodeId) × (j ≡ Reduce q k) × ((g : Fact) → Contains fs g → g.node.0 ≡ k.0)
about_node before (Reduce q k) fs h = (q, k, refl, h.2.at_node)
about_node before (Orient q k) fs h = absurd h
about_node before (Overlap q a c) fs h = absurd h
about_node before (Close q) fs h = absurd h

none_of_map : (o : Option Fact) → option_map (λ (f : Fact). f.found) o ≡ None → o ≡ None
none_of_map None h = refl
none_of_map (Some f) h = none_some (sym h)

-- while a Reduce is in flight, nothing becomes known of its node
pub missing_stays : (P : Problem) (n : Settings) (ms : List Moment) (c : Plain) → IsPossibleRun P n ms c → (before : Plain) (w t : ℕ) (p : Name) (m : NodeId) → Contains ms (record { board = before; entry = Take w t (Reduce p m) }) → Contains c.flight (record { number = t; worker = w; job = Reduce p m })
    → (v : ℕ) (a : RuleRef) → known before m.0 v a ≡ None → find (is_about m.0 v a) c.facts ≡ None
missing_stays P n ms c run before w t p m i k v a e = since P n ms c run before w t (Reduce p m) (λ xs fs. find (is_about m.0 v a) fs ≡ None) (none_of_map (find (is_about m.0 v a) before.facts) e) step i k
  where
    step : (past : List Moment) (b : Plain) (u s : ℕ) (e : Effect) (d : Plain) → IsPossibleRun P n past b → (f : Follows IsFreeJob past b (Commit u s e) d) → Contains b.flight (record { number = t; worker = w; job = Reduce p m }) → t ≢ s
        → find (is_about m.0 v a) b.facts ≡ None → find (is_about m.0 v a) (effect b f.proposal).facts ≡ None
    step past b u s e d run f k away h = ⊎_elim
        (λ q. ap (find (is_about m.0 v a)) q ∙ h)
        (λ q. ap (find (is_about m.0 v a)) q.2 ∙ found_later (is_about m.0 v a) b.facts q.0 h ∙ found_none (is_about m.0 v a) q.0 (other q.0 (subst {A = Proposed} (Proposes f.finishing.before f.job) q.1 f.finishing.proposed)))
        (facts_after b f.proposal)
      where
        mine : Ticket
        mine = record { number = t; worker = w; job = Reduce p m }

        theirs : Ticket
        theirs = record { number = s; worker = u; job = f.job }

        apart : (q : Name) (k : NodeId) → f.job ≡ Reduce q k → m.0 ≢ k.0
        apart q x e same = ⊎_elim
            (λ z. clash (eq-eqb m.0 x.0 same) (subst {A = Job} (λ y. clashes (Reduce p m) y ≡ false) e z))
            (λ z. clash (eq-eqb x.0 m.0 (sym same)) (subst {A = Job} (λ y. clashes y (Reduce p m) ≡ false) e z))
            (two_clear b.flight (flight_clear P n past b run) theirs mine f.finishing.flying k (λ z. away (sym z)))

        other : (fs : List Fact) → Proposes f.finishing.before f.job (Facts fs) → (g : Fact) → Contains fs g → is_about m.0 v a g ≡ false
        other fs h g i =
            let r = about_node f.finishing.before f.job fs h in
            and_left (g.node.0 == m.0) ((g.side == v) && ref_eq g.rule a) (false_unless (g.node.0 == m.0) (λ q. apart r.0 r.1 r.2 (sym (equal g.node.0 m.0 q) ∙ r.3 g i)))
          where
            equal : (x y : ℕ) → (x == y) ≡ true → x ≡ y
            equal x y q = grind arith

-- a fact that is added is known
pub added_known : (b c : Plain) (fs : List Fact) (g : Fact) → c.facts ≡ b.facts ++ fs → Contains fs g → find (is_about g.node.0 g.side g.rule) b.facts ≡ None → known c g.node.0 g.side g.rule ≢ None
added_known b c fs g e i h k =
    let about : is_about g.node.0 g.side g.rule g ≡ true = and_from (g.node.0 == g.node.0) ((g.side == g.side) && ref_eq g.rule g.rule) (eq-eqb g.node.0 g.node.0 refl) (and_from (g.side == g.side) (ref_eq g.rule g.rule) (eq-eqb g.side g.side refl) (ref_self g.rule)) in
    clash about (find_none (is_about g.node.0 g.side g.rule) fs (sym (found_later (is_about g.node.0 g.side g.rule) b.facts fs h) ∙ sym (ap (find (is_about g.node.0 g.side g.rule)) e) ∙ none_of_map (find (is_about g.node.0 g.side g.rule) c.facts) k) g i)
