-- While a process orients it keeps its constraints, and while it closes it keeps all its roles.
use Rattle.std.proofs.Common.{ℕ, zero, suc, ◌≡◌, ◌≢◌, ◌↔◌, inr, refl, sym, ap, ◌∙◌, subst, arith, List, [], ◌∷◌, filter, Contains, true, not, ◌==◌, Option, Some, None, ⊎_elim}
use Rattle.std.specs.Prelude.{⊤}
use Rattle.std.specs.Option.{option_map_or}
use Rattle.std.proofs.lemmas.List.Elements.{Contains-append_cases}
use Rattle.kb_lemmas.proofs.Membership.{contains_cases, none_in}
use Rattle.kb_term.specs.Tree.{Tree}
use Rattle.kb_term.specs.View.{tree_of}
use Rattle.kb_term.specs.Pair.{Pair, canonical_pair}
use Rattle.kb_term.specs.Signature.{Problem}
use Rattle.kb_overlap.specs.Trace.{other_side}
use Rattle.kb_term.specs.declared.origin.RuleRef.{RuleRef}
use Rattle.kb_term.specs.declared.origin.Found.{Found}
use Rattle.kb_term.specs.declared.origin.Origin.{Origin}
use Rattle.kb_term.specs.declared.origin.Origin.TheVariants.{Rewrite as ByRewrite, Overlap as ByOverlap}
use Rattle.kb_label.specs.Names.{Name, has, join, meet, minus}
use Rattle.kb_label.specs.declared.verdict.Reason.{Reason}
use Rattle.kb_node.specs.declared.node.NodeId.{NodeId}
use Rattle.kb_node.specs.declared.node.LabelKind.{LabelKind}
use Rattle.kb_node.specs.declared.node.LabelKind.TheVariants.{R0, R1, E, X}
use Rattle.kb_node.specs.declared.job.Fact.{Fact}
use Rattle.kb_node.specs.declared.job.Deduced.{Deduced}
use Rattle.kb_node.specs.declared.job.Job.{Job}
use Rattle.kb_node.specs.declared.job.Job.TheVariants.{Orient, Close}
use Rattle.mkb_model.specs.Jobs.{process_of}
use Rattle.mkb_model.specs.Plain.{Plain, PlainNode, label_at, rule_kind, constraint_kind, other, pair_at}
use Rattle.mkb_model.specs.Effects.{applied, effect, limit_of, give_up, effect_label, with_label, loses, gains_equation, gains_rule, with_node, node_of, added, moved_to, rewritten, rewrite_label, overlap_label, direction, if_strict}
use Rattle.mkb_model.specs.Proposals.{Proposes}
use Rattle.mkb_model.specs.Journals.{Moment, Follows, IsPossibleRun, IsFreeJob}
use Rattle.mkb_model.specs.Ready.{IsOn, IsRole}
use Rattle.mkb_model.specs.declared.proposed.Proposed.{Proposed}
use Rattle.mkb_model.specs.declared.proposed.Proposed.TheVariants.{Facts, Rewrite, One, Both, Refuse, Deduce, Unjoined, Closed, Limit}
use Rattle.mkb_model.specs.declared.entry.Effect.{Effect}
use Rattle.mkb_model.specs.declared.entry.Ticket.{Ticket}
use Rattle.mkb_model.specs.declared.entry.Entry.{Entry}
use Rattle.mkb_model.specs.declared.entry.Entry.TheVariants.{Take, Commit, Drop, Abandon, Halt}
use Rattle.mkb_model.proofs.commits.Roles.{KeepsRoles, keeps_trans, keeps-gains, has-one, put_other, label-with_node, refused-no_constraint}
use Rattle.mkb_model.proofs.tickets.NoClash.{effect_flight}
use Rattle.mkb_model.proofs.nodes.DistinctPairs.{pairs_stay}
use Rattle.mkb_model.proofs.commits.Orienting.{keeps-oriented}
use Rattle.mkb_model.proofs.commits.Adding.{rule_role}
use Rattle.mkb_model.proofs.commits.Commits.{IsApartFrom, fork_other}
use Rattle.mkb_model.proofs.tickets.InFlight.{is_own, own_of, owners_differ, owners_live, not_landed, taken_free, unlike}
use Rattle.mkb_model.proofs.commits.Bystanders.{same_roles, apart_forked, role_tests}
use Rattle.mkb_model.proofs.closing.RestInRuns.{Stands, stands_run, resting_run, stays}
use Rattle.mkb_model.specs.declared.settings.Settings.{Settings}

-- ---- from a take to a later board

-- what holds of the nodes and the facts when a ticket is taken, and is kept by each commit of another ticket, holds while it flies
pub since : (P : Problem) (n : Settings) (ms : List Moment) (c : Plain) → IsPossibleRun P n ms c → (before : Plain) (w t : ℕ) (j : Job) (Q : List PlainNode → List Fact → Type 0) → Q before.nodes before.facts
    → ((past : List Moment) (b : Plain) (v s : ℕ) (e : Effect) (d : Plain) → IsPossibleRun P n past b → (f : Follows IsFreeJob past b (Commit v s e) d) → Contains b.flight (record { number = t; worker = w; job = j }) → t ≢ s → Q b.nodes b.facts → Q (effect b f.proposal).nodes (effect b f.proposal).facts)
    → Contains ms (record { board = before; entry = Take w t j }) → Contains c.flight (record { number = t; worker = w; job = j }) → Q c.nodes c.facts
since P n [] c run before w t j Q q step i k = none_in i
since P n (m ∷ ms) c (run, f) before w t j Q q step i k = ⊎_elim now (λ l. earlier l (λ o. since P n ms m.board run before w t j Q q step l o) m.entry f) (contains_cases m ms (record { board = before; entry = Take w t j }) i)
  where
    mine : Ticket
    mine = record { number = t; worker = w; job = j }

    now : m ≡ record { board = before; entry = Take w t j } → Q c.nodes c.facts
    now e = at (subst {A = Moment} (λ z. Follows IsFreeJob ms z.board z.entry c) e f)
      where
        at : Follows IsFreeJob ms before (Take w t j) c → Q c.nodes c.facts
        at f = subst {A = Plain} (λ z. Q z.nodes z.facts) (sym f.leads_to) q

    earlier : Contains ms (record { board = before; entry = Take w t j }) → (Contains m.board.flight mine → Q m.board.nodes m.board.facts) → (e : Entry) → Follows IsFreeJob ms m.board e c → Q c.nodes c.facts
    earlier l ih (Take v s i) f = subst {A = Plain} (λ z. Q z.nodes z.facts) (sym f.leads_to) (⊎_elim ih
        (λ o. ⊎_elim (λ e. absurd (let r = (taken_free P n ms m.board run before w t j l).1 in let h : s ≡ t = ap (λ (z : Ticket). z.number) e in let g = f.next_number in omega (arith, r, h, g))) (λ e. none_in e) (contains_cases (record { number = s; worker = v; job = i }) [] mine o))
        (Contains-append_cases m.board.flight (record { number = s; worker = v; job = i } ∷ []) mine (subst {A = Plain} (λ z. Contains z.flight mine) f.leads_to k)))
    earlier l ih (Commit v s e) f =
        let o = not_landed s m.board.flight mine (subst {A = List Ticket} (λ ts. Contains ts mine) (ap (λ (z : Plain). z.flight) f.leads_to ∙ ap (filter (λ (x : Ticket). not (x.number == s))) (effect_flight m.board f.proposal)) k) in
        subst {A = Plain} (λ z. Q z.nodes z.facts) (sym f.leads_to) (step ms m.board v s e c run f o.0 o.1 (ih o.0))
    earlier l ih (Drop v s p) f = subst {A = Plain} (λ z. Q z.nodes z.facts) (sym f.leads_to) (ih (not_landed s m.board.flight mine (subst {A = Plain} (λ z. Contains z.flight mine) f.leads_to k)).0)
    earlier l ih (Abandon v s) f = subst {A = Plain} (λ z. Q z.nodes z.facts) (sym f.leads_to) (ih (not_landed s m.board.flight mine (subst {A = Plain} (λ z. Contains z.flight mine) f.leads_to k)).0)
    earlier l ih Halt f = subst {A = Plain} (λ z. Q z.nodes z.facts) (sym f.1) (ih (subst {A = Plain} (λ z. Contains z.flight mine) f.1 k))

-- ---- closing

-- a process whose Close is in flight lives, and has the roles that it had when the ticket was taken
pub closers_stay : (P : Problem) (n : Settings) (ms : List Moment) (c : Plain) → IsPossibleRun P n ms c → (before : Plain) (w t : ℕ) (p : Name) → Contains ms (record { board = before; entry = Take w t (Close p) }) → Contains c.flight (record { number = t; worker = w; job = Close p }) → (has c.living p ≡ true) × KeepsRoles before.nodes c.nodes p
closers_stay P n ms c run before w t p i k = (owners_live P n ms c run (record { number = t; worker = w; job = Close p }) k refl, since P n ms c run before w t (Close p) (λ xs fs. KeepsRoles before.nodes xs p) (same_roles before.nodes p) step i k)
  where
    step : (past : List Moment) (b : Plain) (v s : ℕ) (e : Effect) (d : Plain) → IsPossibleRun P n past b → (f : Follows IsFreeJob past b (Commit v s e) d) → Contains b.flight (record { number = t; worker = w; job = Close p }) → t ≢ s → KeepsRoles before.nodes b.nodes p → KeepsRoles before.nodes (effect b f.proposal).nodes p
    step past b v s e d run f k away h =
        let g = stands_run P n past b run in
        let r = resting_run P n past b run in
        let u = stays f.finishing.before b v s f.job f.proposal f.finishing.proposed (taken_free P n past b run f.finishing.before v s f.job f.finishing.taken).0
        (pairs_stay IsFreeJob P n past b run (record { board = f.finishing.before; entry = Take v s f.job }) f.finishing.taken) f.finishing.flying f.acts g r p
        (r.closing (record { number = t; worker = w; job = Close p }) p k refl) (owners_live P n past b run (record { number = t; worker = w; job = Close p }) k refl)
        (λ own. owners_differ b g.clear (record { number = s; worker = v; job = f.job }) (record { number = t; worker = w; job = Close p }) f.finishing.flying k (λ q. away (sym q)) own refl) in
        keeps_trans before.nodes b.nodes (effect b f.proposal).nodes p h u.roles

-- ---- orienting

-- each node has the same names in each label that is no role
abbrev pub SameButRoles : List PlainNode → List PlainNode → Type 0
SameButRoles xs ys = (m : ℕ) (k : LabelKind) → ¬ IsRole k → label_at ys m k ≡ label_at xs m k

same_trans : (xs ys zs : List PlainNode) → SameButRoles xs ys → SameButRoles ys zs → SameButRoles xs zs
same_trans xs ys zs h k m j out = k m j out ∙ h m j out

same_put : (n : ℕ) (j : LabelKind) (l : List Name) (xs : List PlainNode) → IsRole j → SameButRoles xs (with_label n j l xs)
same_put n j l xs role m k out = put_other xs n m j k l (inr (λ e. out (subst {A = LabelKind} IsRole (sym e) role)))

same_gains_equation : (n : ℕ) (l : List Name) (xs : List PlainNode) → SameButRoles xs (gains_equation n l xs)
same_gains_equation n l xs = same_put n E (join (label_at xs n E) (minus (minus l (label_at xs n R0)) (label_at xs n R1))) xs tt

same_loses_equation : (n : ℕ) (l : List Name) (xs : List PlainNode) → SameButRoles xs (loses n E l xs)
same_loses_equation n l xs = same_put n E (minus (label_at xs n E) l) xs tt

same_loses_rule : (n r : ℕ) (l : List Name) (xs : List PlainNode) → SameButRoles xs (loses n (rule_kind r) l xs)
same_loses_rule n r l xs = same_put n (rule_kind r) (minus (label_at xs n (rule_kind r)) l) xs (rule_role r)

same_gains_rule : (a : RuleRef) (l : List Name) (xs : List PlainNode) → SameButRoles xs (gains_rule a l xs)
same_gains_rule a l xs = same_trans xs (loses a.node E l xs) (gains_rule a l xs) (same_loses_equation a.node l xs) (same_put a.node (rule_kind a.dir) (join (label_at (loses a.node E l xs) a.node (rule_kind a.dir)) l) (loses a.node E l xs) (rule_role a.dir))

same_with_node : (q : Pair) (o : Origin) (xs : List PlainNode) → SameButRoles xs (with_node q o xs)
same_with_node q o xs m k out = label-with_node q o xs m k

same_added : (l : List Name) (ds : List Deduced) (xs : List PlainNode) → SameButRoles xs (added l ds xs)
same_added l [] xs = λ m k out. refl
same_added l (x ∷ ds) xs =
    let ys : List PlainNode = with_node x.pair (ByOverlap x.outer x.inner x.position) xs in
    let zs : List PlainNode = gains_equation (node_of ys x.pair) l ys in
    same_trans xs zs (added l ds zs) (same_trans xs ys zs (same_with_node x.pair (ByOverlap x.outer x.inner x.position) xs) (same_gains_equation (node_of ys x.pair) l ys)) (same_added l ds zs)

same_moved : (q : Option Pair) (o : Origin) (rest result : Tree) (le lr ll : List Name) (xs : List PlainNode) → SameButRoles xs (moved_to q o rest result le lr ll xs)
same_moved None o rest result le lr ll xs = λ m k out. refl
same_moved (Some q) o rest result le lr ll xs =
    let ws : List PlainNode = with_node q o xs in
    let n : ℕ = node_of ws q in
    let a : RuleRef = record { node = n; dir = direction rest result q } in
    let y1 : List PlainNode = gains_rule a lr ws in
    let y2 : List PlainNode = gains_equation n le y1 in
    same_trans xs ws (gains_equation n ll y2) (same_with_node q o xs) (same_trans ws y1 (gains_equation n ll y2) (same_gains_rule a lr ws) (same_trans y1 y2 (gains_equation n ll y2) (same_gains_equation n le y1) (same_gains_equation n ll y2)))

same_rewritten : (l : List Name) (n w : ℕ) (at : List ℕ) (a : RuleRef) (kind : Found) (u : Tree) (q : Pair) (xs : List PlainNode) → SameButRoles xs (rewritten l n w at a kind u q xs)
same_rewritten l n w at a kind u q xs =
    let x1 : List PlainNode = loses n (rule_kind w) (if_strict kind l) xs in
    let x2 : List PlainNode = loses n (rule_kind (other w)) l x1 in
    let x3 : List PlainNode = loses n E l x2 in
    same_trans xs x3 (rewritten l n w at a kind u q xs) (same_trans xs x1 x3 (same_loses_rule n w (if_strict kind l) xs) (same_trans x1 x2 x3 (same_loses_rule n (other w) l x1) (same_loses_equation n l x2)))
    (same_moved (canonical_pair u (other_side q w)) (ByRewrite n w at a) (other_side q w) u (meet l (label_at xs n E)) (meet l (label_at xs n (rule_kind (other w)))) (if_strict kind (meet l (label_at xs n (rule_kind w)))) x3)

no_role : (d : ℕ) → ¬ IsRole (constraint_kind d)
no_role zero h = h
no_role (suc d) h = h

-- the process has the same constraints
abbrev pub KeepsConstraints : List PlainNode → List PlainNode → Name → Type 0
KeepsConstraints xs ys p = (k d : ℕ) → IsOn ys p k (constraint_kind d) ↔ IsOn xs p k (constraint_kind d)

by_same : (xs ys : List PlainNode) (p : Name) → SameButRoles xs ys → KeepsConstraints xs ys p
by_same xs ys p h k d = let e = ap (λ l. has l p) (h k (constraint_kind d) (no_role d)) in ((λ o. sym e ∙ o), λ o. e ∙ o)

by_roles : (xs ys : List PlainNode) (p : Name) → KeepsRoles xs ys p → KeepsConstraints xs ys p
by_roles xs ys p h k d = h k (constraint_kind d)

-- the proposal orients for another process
abbrev pub IsOthers : Proposed → Name → Type 0
IsOthers (One q n d c) p = p ≢ q
IsOthers (Both q n c0 c1) p = IsApartFrom q p
IsOthers x p = ⊤

pub constraints_applied : (b : Plain) (x : Proposed) (p : Name) → IsOthers x p → KeepsConstraints b.nodes (applied b x).nodes p
constraints_applied b (Facts fs) p o = by_roles b.nodes b.nodes p (same_roles b.nodes p)
constraints_applied b (Rewrite n w at a kind t) p o = go (pair_at b n.0)
  where
    go : (o : Option Pair) → KeepsConstraints b.nodes (option_map_or (λ q. rewritten (rewrite_label b n.0 w a kind) n.0 w at a kind (tree_of t) q) o (λ xs. xs) b.nodes) p
    go None = by_roles b.nodes b.nodes p (same_roles b.nodes p)
    go (Some z) = by_same b.nodes (rewritten (rewrite_label b n.0 w a kind) n.0 w at a kind (tree_of t) z b.nodes) p (same_rewritten (rewrite_label b n.0 w a kind) n.0 w at a kind (tree_of t) z b.nodes)
constraints_applied b (One q n d c) p o = by_roles b.nodes (applied b (One q n d c)).nodes p (keeps-oriented q (record { node = n.0; dir = d }) b.nodes p (unlike p q o))
constraints_applied b (Both q n c0 c1) p o = by_roles b.nodes (applied b (Both q n c0 c1)).nodes p (fork_other b q n.0 p o)
constraints_applied b (Refuse q n) p o = λ k d. let e = ap (λ l. has l p) (put_other b.nodes n.0 k X (constraint_kind d) (join (label_at b.nodes n.0 X) (q ∷ [])) (inr (refused-no_constraint d))) in ((λ i. sym e ∙ i), λ i. e ∙ i)
constraints_applied b (Deduce a c ds) p o = by_same b.nodes (added (overlap_label b a c) ds b.nodes) p (same_added (overlap_label b a c) ds b.nodes)
constraints_applied b (Unjoined q ds) p o = by_same b.nodes (added (q ∷ []) ds b.nodes) p (same_added (q ∷ []) ds b.nodes)
constraints_applied b (Closed q) p o = by_roles b.nodes b.nodes p (same_roles b.nodes p)
constraints_applied b (Limit j cause) p o = by_roles b.nodes b.nodes p (same_roles b.nodes p)

constraints_effect : (b : Plain) (x : Proposed) (p : Name) → IsOthers x p → KeepsConstraints b.nodes (effect b x).nodes p
constraints_effect b x p h = go (limit_of b x)
  where
    go : (o : Option Reason) → KeepsConstraints b.nodes (option_map_or (λ r. give_up r (effect_label b x) b) o (applied b x)).nodes p
    go None = constraints_applied b x p h
    go (Some r) = by_roles b.nodes b.nodes p (same_roles b.nodes p)

others : (before b : Plain) (t u : Ticket) (x : Proposed) → Proposes before t.job x → Stands b → Contains b.flight t → Contains b.flight u → u.number ≢ t.number → is_own u.job ≡ true → IsOthers x (process_of u.job)
others before b t u (One q n d c) h s i k away own = let o = own_of before t.job (One q n d c) h in λ e. owners_differ b s.clear u t k i away own o.0 (e ∙ sym o.1)
others before b t u (Both q n c0 c1) h s i k away own =
    let o = own_of before t.job (Both q n c0 c1) h in
    apart_forked b q (process_of u.job) s.apart (subst {A = Name} (λ z. has b.living z ≡ true) o.1 (s.owners t i o.0)) (s.owners u k own) (λ e. owners_differ b s.clear u t k i away own o.0 (e ∙ sym o.1))
others before b t u (Facts fs) h s i k away own = tt
others before b t u (Rewrite n w at a kind r) h s i k away own = tt
others before b t u (Refuse q n) h s i k away own = tt
others before b t u (Deduce a c ds) h s i k away own = tt
others before b t u (Unjoined q ds) h s i k away own = tt
others before b t u (Closed q) h s i k away own = tt
others before b t u (Limit j cause) h s i k away own = tt

-- a process whose Orient is in flight lives, and has the constraints that it had when the ticket was taken
pub orienters_stay : (P : Problem) (n : Settings) (ms : List Moment) (c : Plain) → IsPossibleRun P n ms c → (before : Plain) (w t : ℕ) (p : Name) (m : NodeId) → Contains ms (record { board = before; entry = Take w t (Orient p m) }) → Contains c.flight (record { number = t; worker = w; job = Orient p m }) → (has c.living p ≡ true) × KeepsConstraints before.nodes c.nodes p
orienters_stay P n ms c run before w t p m i k = (owners_live P n ms c run (record { number = t; worker = w; job = Orient p m }) k refl, since P n ms c run before w t (Orient p m) (λ xs fs. KeepsConstraints before.nodes xs p) (by_roles before.nodes before.nodes p (same_roles before.nodes p)) step i k)
  where
    step : (past : List Moment) (b : Plain) (v s : ℕ) (e : Effect) (d : Plain) → IsPossibleRun P n past b → (f : Follows IsFreeJob past b (Commit v s e) d) → Contains b.flight (record { number = t; worker = w; job = Orient p m }) → t ≢ s → KeepsConstraints before.nodes b.nodes p → KeepsConstraints before.nodes (effect b f.proposal).nodes p
    step past b v s e d run f k away h x y =
        let q = constraints_effect b f.proposal p (others f.finishing.before b (record { number = s; worker = v; job = f.job }) (record { number = t; worker = w; job = Orient p m }) f.proposal f.finishing.proposed (stands_run P n past b run) f.finishing.flying k away refl) x y in
        ((λ o. (h x y).0 (q.0 o)), λ o. q.1 ((h x y).1 o))

-- ---- refusing

-- the proposal orients or refuses for another process
abbrev OrientsOthers : Proposed → Name → Type 0
OrientsOthers (Refuse q n) p = p ≢ q
OrientsOthers x p = IsOthers x p

orients_others : (before b : Plain) (t u : Ticket) (x : Proposed) → Proposes before t.job x → Stands b → Contains b.flight t → Contains b.flight u → u.number ≢ t.number → is_own u.job ≡ true → OrientsOthers x (process_of u.job)
orients_others before b t u (Refuse q n) h s i k away own = let o = own_of before t.job (Refuse q n) h in λ e. owners_differ b s.clear u t k i away own o.0 (e ∙ sym o.1)
orients_others before b t u (Facts fs) h s i k away own = tt
orients_others before b t u (Rewrite n w at a kind r) h s i k away own = tt
orients_others before b t u (One q n d c) h s i k away own = others before b t u (One q n d c) h s i k away own
orients_others before b t u (Both q n c0 c1) h s i k away own = others before b t u (Both q n c0 c1) h s i k away own
orients_others before b t u (Deduce a c ds) h s i k away own = tt
orients_others before b t u (Unjoined q ds) h s i k away own = tt
orients_others before b t u (Closed q) h s i k away own = tt
orients_others before b t u (Limit j cause) h s i k away own = tt

-- who is not oriented for is refused the same nodes
refused_applied : (b : Plain) (x : Proposed) (p : Name) → OrientsOthers x p → (m : ℕ) → has (label_at (applied b x).nodes m X) p ≡ has (label_at b.nodes m X) p
refused_applied b (Facts fs) p o m = refl
refused_applied b (Rewrite n w at a kind t) p o m = go (pair_at b n.0)
  where
    go : (o : Option Pair) → has (label_at (option_map_or (λ q. rewritten (rewrite_label b n.0 w a kind) n.0 w at a kind (tree_of t) q) o (λ xs. xs) b.nodes) m X) p ≡ has (label_at b.nodes m X) p
    go None = refl
    go (Some z) = ap (λ l. has l p) (same_rewritten (rewrite_label b n.0 w a kind) n.0 w at a kind (tree_of t) z b.nodes m X (λ h. h))
refused_applied b (One q n d c) p o m = role_tests b (applied b (One q n d c)) p (keeps-oriented q (record { node = n.0; dir = d }) b.nodes p (unlike p q o)) m X
refused_applied b (Both q n c0 c1) p o m = role_tests b (applied b (Both q n c0 c1)) p (fork_other b q n.0 p o) m X
refused_applied b (Refuse q n) p o m = role_tests b (applied b (Refuse q n)) p (keeps-gains n.0 X (q ∷ []) b.nodes p (has-one q p ∙ unlike p q o)) m X
refused_applied b (Deduce a c ds) p o m = ap (λ l. has l p) (same_added (overlap_label b a c) ds b.nodes m X (λ h. h))
refused_applied b (Unjoined q ds) p o m = ap (λ l. has l p) (same_added (q ∷ []) ds b.nodes m X (λ h. h))
refused_applied b (Closed q) p o m = refl
refused_applied b (Limit j cause) p o m = refl

refused_effect : (b : Plain) (x : Proposed) (p : Name) → OrientsOthers x p → (m : ℕ) → has (label_at (effect b x).nodes m X) p ≡ has (label_at b.nodes m X) p
refused_effect b x p h m = go (limit_of b x)
  where
    go : (o : Option Reason) → has (label_at (option_map_or (λ r. give_up r (effect_label b x) b) o (applied b x)).nodes m X) p ≡ has (label_at b.nodes m X) p
    go None = refused_applied b x p h m
    go (Some r) = refl

-- a process whose Orient is in flight is refused the nodes that it was refused when the ticket was taken
pub refused_stay : (P : Problem) (n : Settings) (ms : List Moment) (c : Plain) → IsPossibleRun P n ms c → (before : Plain) (w t : ℕ) (p : Name) (m : NodeId) → Contains ms (record { board = before; entry = Take w t (Orient p m) }) → Contains c.flight (record { number = t; worker = w; job = Orient p m })
    → (k : ℕ) → has (label_at c.nodes k X) p ≡ has (label_at before.nodes k X) p
refused_stay P n ms c run before w t p m i k = since P n ms c run before w t (Orient p m) (λ xs fs. (k : ℕ) → has (label_at xs k X) p ≡ has (label_at before.nodes k X) p) (λ k. refl) step i k
  where
    step : (past : List Moment) (b : Plain) (v s : ℕ) (e : Effect) (d : Plain) → IsPossibleRun P n past b → (f : Follows IsFreeJob past b (Commit v s e) d) → Contains b.flight (record { number = t; worker = w; job = Orient p m }) → t ≢ s
        → ((k : ℕ) → has (label_at b.nodes k X) p ≡ has (label_at before.nodes k X) p) → (k : ℕ) → has (label_at (effect b f.proposal).nodes k X) p ≡ has (label_at before.nodes k X) p
    step past b v s e d run f k away h y = refused_effect b f.proposal p (orients_others f.finishing.before b (record { number = s; worker = v; job = f.job }) (record { number = t; worker = w; job = Orient p m }) f.proposal f.finishing.proposed (stands_run P n past b run) f.finishing.flying k away refl) y ∙ h y
