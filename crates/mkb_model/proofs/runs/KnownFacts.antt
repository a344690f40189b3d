-- In a run the known facts are true, and none is of a strict redex.
use Rattle.std.proofs.Common.{ℕ, ◌≡◌, ◌≢◌, ◌⊎◌, inl, inr, refl, sym, ap, ◌∙◌, subst, List, [], ◌∷◌, map, filter, Option, Some, None, ⊎_elim, Contains}
use Rattle.std.specs.Prelude.{option_map, is_none}
use Rattle.std.specs.Option.{option_map_or}
use Rattle.std.proofs.lemmas.List.Elements.{Contains-append_cases}
use Rattle.kb_term.proofs.Subtrees.{replace-there}
use Rattle.kb_lemmas.proofs.Membership.{contains_cases, none_in, contains_map, contains_mapped, contains_flat_map_back}
use Rattle.kb_lemmas.proofs.Options.{none_some}
use Rattle.kb_term.specs.Tree.{Tree}
use Rattle.kb_term.specs.Position.{subtree_at}
use Rattle.kb_term.specs.Substitution.{instance}
use Rattle.kb_term.specs.Pair.{Pair}
use Rattle.kb_term.specs.Rule.{Rule, rule_of}
use Rattle.kb_overlap.specs.Trace.{side}
use Rattle.kb_term.specs.Signature.{Problem}
use Rattle.kb_rewrite.specs.NormalForm.{IsFound, Encompasses}
use Rattle.kb_term.specs.Proving.{RewritesAt}
use Rattle.kb_term.specs.declared.origin.RuleRef.{RuleRef}
use Rattle.kb_term.specs.declared.origin.Found.{Found}
use Rattle.kb_term.specs.declared.origin.Found.TheVariants.{Strict}
use Rattle.mkb_model.specs.Plain.{Plain, rule_at, known, pair_in}
use Rattle.mkb_model.specs.DueJobs.{reducers}
use Rattle.mkb_model.specs.Effects.{applied, effect, limit_of, give_up, effect_label}
use Rattle.mkb_model.specs.Proposals.{Proposes, named_rules}
use Rattle.mkb_model.specs.Invariants.{IsTrueFact, FactsHold}
use Rattle.mkb_model.specs.Journals.{Moment, Follows, IsRunBy}
use Rattle.kb_label.specs.declared.verdict.Reason.{Reason}
use Rattle.kb_node.specs.declared.job.Fact.{Fact}
use Rattle.kb_node.specs.declared.job.Job.{Job}
use Rattle.kb_node.specs.declared.job.Job.TheVariants.{Reduce, Orient, Overlap, Close}
use Rattle.mkb_model.specs.declared.proposed.Proposed.{Proposed}
use Rattle.mkb_model.specs.declared.proposed.Proposed.TheVariants.{Facts, Rewrite, One, Both, Refuse, Deduce, Unjoined, Closed, Limit}
use Rattle.mkb_model.specs.declared.entry.Entry.{Entry}
use Rattle.mkb_model.specs.declared.entry.Entry.TheVariants.{Take, Commit, Drop, Abandon, Halt}
use Rattle.mkb_model.specs.Ready.{KeepsPairs}
use Rattle.mkb_model.proofs.runs.Readiness.{named_rule}
use Rattle.mkb_model.proofs.nodes.DistinctPairs.{pairs_follow, pairs_stay}
use Rattle.mkb_model.specs.declared.settings.Settings.{Settings}

-- a rule rewrites what its left side is encompassed by
pub encompassed_rewrites : (t : Tree) (rule : Rule) → Encompasses t rule.left → (p : List ℕ) × (u : Tree) × RewritesAt rule p t u
encompassed_rewrites t rule (p, (u, there, (m, e))) =
    let h : subtree_at t p ≡ Some (instance m rule.left) = there ∙ ap Some (sym e) in
    let r = replace-there p t (instance m rule.left) (instance m rule.right) h in
    (p, r.0, (m, record { redex = h; result = r.1 }))

-- ---- facts

-- a rule that is there stays
pub rule_stays : (b c : Plain) (a : RuleRef) (r : Rule) → KeepsPairs b.nodes c.nodes → rule_at b a ≡ Some r → rule_at c a ≡ Some r
rule_stays b c a r keeps h = go (pair_in b.nodes a.node) refl h
  where
    go : (o : Option Pair) → pair_in b.nodes a.node ≡ o → option_map (λ q. rule_of q a.dir) o ≡ Some r → rule_at c a ≡ Some r
    go None e k = none_some k
    go (Some q) e k = ap (option_map (λ q. rule_of q a.dir)) (keeps a.node q e) ∙ k

fact_stays : (b c : Plain) (f : Fact) → KeepsPairs b.nodes c.nodes → IsTrueFact b f → IsTrueFact c f
fact_stays b c f keeps t = record { pair = t.pair; rule = t.rule; pair_there = keeps f.node.0 t.pair t.pair_there; rule_there = rule_stays b c f.rule t.rule keeps t.rule_there; found = t.found }

-- what a Reduce proposes as facts is true, and never of a strict redex
facts_true : (b : Plain) (j : Job) (fs : List Fact) → Proposes b j (Facts fs) → (f : Fact) → Contains fs f → IsTrueFact b f × (f.found ≢ Strict)
facts_true b (Reduce p n) fs (pair, there, missing) f i = (
  record { pair = pair; rule = t.0; pair_there = ap (pair_in b.nodes) (missing.at_node f i) ∙ there; rule_there = rule_there; found = t.2 },
  λ e. let s = encompassed_rewrites (side pair f.side) t.0 (subst {A = Found} (IsFound (side pair f.side) t.0) e t.2).0 in
      missing.none_usable f.side s.0 f.rule Strict s.1 (record { rule = t.0; listed = t.1; is_side = sided; rewrites = s.2; found = subst {A = Found} (IsFound (side pair f.side) t.0) e t.2; may_be = refl }),
)
  where
    t : (rule : Rule) × Contains (named_rules b (reducers b p n.0)) (record { ref = f.rule; rule = rule }) × IsFound (side pair f.side) rule f.found
    t = missing.are_true f i

    rule_there : rule_at b f.rule ≡ Some t.0
    rule_there = let k = named_rule b (reducers b p n.0) f.rule t.0 t.1 in ap (option_map (λ q. rule_of q f.rule.dir)) k.1.1 ∙ ap Some k.1.2

    sided : (f.side ≡ 0) ⊎ (f.side ≡ 1)
    sided =
        let c = subst {A = List (ℕ × RuleRef)} (λ xs. Contains xs (f.side, f.rule)) missing.are_unknown (contains_map (λ (f : Fact). (f.side, f.rule)) fs f i) in
        let w = contains_flat_map_back (λ w. map (λ a. (w, a)) (filter (λ a. is_none (known b n.0 w a)) (reducers b p n.0))) (0 ∷ 1 ∷ []) (f.side, f.rule) c in
        let m = contains_mapped (λ a. (w.0, a)) (filter (λ a. is_none (known b n.0 w.0 a)) (reducers b p n.0)) (f.side, f.rule) w.2 in
        let e : w.0 ≡ f.side = ap (λ (x : ℕ × RuleRef). x.0) m.2 in
        ⊎_elim (λ k. inl (sym e ∙ sym k)) (λ k. inr (sym e ∙ sym (⊎_elim (λ z. z) (λ z. none_in z) (contains_cases 1 [] w.0 k)))) (contains_cases 0 (1 ∷ []) w.0 w.1)
facts_true b (Orient p n) fs h f i = absurd h
facts_true b (Overlap p a c) fs h f i = absurd h
facts_true b (Close p) fs h f i = absurd h

-- the facts after a commit: those before, and those of a proposal of facts
applied_facts : (b : Plain) (x : Proposed) (f : Fact) → Contains (applied b x).facts f → Contains b.facts f ⊎ ((fs : List Fact) × (x ≡ Facts fs) × Contains fs f)
applied_facts b (Facts fs) f i = ⊎_elim (λ k. inl k) (λ k. inr (fs, refl, k)) (Contains-append_cases b.facts fs f i)
applied_facts b (Rewrite n w at a kind t) f i = inl i
applied_facts b (One p n d c) f i = inl i
applied_facts b (Both p n c0 c1) f i = inl i
applied_facts b (Refuse p n) f i = inl i
applied_facts b (Deduce a c ds) f i = inl i
applied_facts b (Unjoined p ds) f i = inl i
applied_facts b (Closed p) f i = inl i
applied_facts b (Limit j cause) f i = inl i

effect_facts : (b : Plain) (x : Proposed) (f : Fact) → Contains (effect b x).facts f → Contains b.facts f ⊎ ((fs : List Fact) × (x ≡ Facts fs) × Contains fs f)
effect_facts b x f = go (limit_of b x)
  where
    go : (o : Option Reason) → Contains (option_map_or (λ r. give_up r (effect_label b x) b) o (applied b x)).facts f → Contains b.facts f ⊎ ((fs : List Fact) × (x ≡ Facts fs) × Contains fs f)
    go None i = applied_facts b x f i
    go (Some r) i = inl i

facts_same : (b c : Plain) → KeepsPairs b.nodes c.nodes → ((f : Fact) → Contains c.facts f → Contains b.facts f) → FactsHold b → FactsHold c
facts_same b c keeps old h f i = let k = h f (old f i) in (fact_stays b c f keeps k.0, k.1)

facts_follow : (May : Plain → Job → Type 0) (P : Problem) (n : Settings) (past : List Moment) (b : Plain) (e : Entry) (c : Plain) → IsRunBy May P n past b → Follows May past b e c → FactsHold b → FactsHold c
facts_follow May P n past b (Take w t j) c run f h = facts_same b c (pairs_follow May past b (Take w t j) c f) (λ x i. subst {A = Plain} (λ z. Contains z.facts x) f.leads_to i) h
facts_follow May P n past b (Commit w t e) c run f h = λ x i. go x (effect_facts b f.proposal x (subst {A = Plain} (λ z. Contains z.facts x) f.leads_to i))
  where
    go : (x : Fact) → Contains b.facts x ⊎ ((fs : List Fact) × (f.proposal ≡ Facts fs) × Contains fs x) → IsTrueFact c x × (x.found ≢ Strict)
    go x (inl i) = let k = h x i in (fact_stays b c x (pairs_follow May past b (Commit w t e) c f) k.0, k.1)
    go x (inr (fs, q, i)) =
        let k = facts_true f.finishing.before f.job fs (subst {A = Proposed} (Proposes f.finishing.before f.job) q f.finishing.proposed) x i in
        (fact_stays b c x (pairs_follow May past b (Commit w t e) c f) (fact_stays f.finishing.before b x (pairs_stay May P n past b run (record { board = f.finishing.before; entry = Take w t f.job }) f.finishing.taken) k.0), k.1)
facts_follow May P n past b (Drop w t p) c run f h = facts_same b c (pairs_follow May past b (Drop w t p) c f) (λ x i. subst {A = Plain} (λ z. Contains z.facts x) f.leads_to i) h
facts_follow May P n past b (Abandon w t) c run f h = facts_same b c (pairs_follow May past b (Abandon w t) c f) (λ x i. subst {A = Plain} (λ z. Contains z.facts x) f.leads_to i) h
facts_follow May P n past b Halt c run f h = subst {A = Plain} FactsHold (sym f.1) h

-- in a run the facts are true, and none is strict
pub facts_hold : (May : Plain → Job → Type 0) (P : Problem) (n : Settings) (ms : List Moment) (c : Plain) → IsRunBy May P n ms c → FactsHold c
facts_hold May P n [] c run = subst {A = Plain} FactsHold (sym run) (λ f i. none_in i)
facts_hold May P n (m ∷ ms) c (run, f) = facts_follow May P n ms m.board m.entry c run f (facts_hold May P n ms m.board run)
