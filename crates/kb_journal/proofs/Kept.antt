-- What a board keeps of its rewritings: so the line of an entry stays as nodes are added.
use Rattle.std.proofs.Common.{ℕ, zero, suc, ◌≡◌, refl, sym, ap, ◌∙◌, subst, List, [], ◌∷◌, Option, Some, None, All, true}
use Rattle.std.specs.Prelude.{option_and_then, option_map}
use Rattle.std.specs.Option.{option_map_or}
use Rattle.std.proofs.lemmas.List.Elements.{All-cons, All-nil, All-push, All-head, All-tail}
use Rattle.std.proofs.lemmas.Bool.{or_left, or_right}
use Rattle.mkb_model.proofs.commits.Views.{there_pair}
use Rattle.kb_lemmas.proofs.Options.{none_some}
use Rattle.kb_term.specs.Tree.{Tree}
use Rattle.kb_term.specs.View.{tree_of}
use Rattle.kb_term.specs.Pair.{Pair, canonical_pair}
use Rattle.kb_term.specs.Signature.{Problem, IsWithinLimits}
use Rattle.kb_term.specs.declared.origin.Found.{Found}
use Rattle.kb_term.specs.declared.origin.Origin.{Origin}
use Rattle.kb_term.specs.declared.origin.Origin.TheVariants.{Rewrite as ByRewrite}
use Rattle.kb_term.specs.declared.origin.RuleRef.{RuleRef}
use Rattle.kb_overlap.specs.Trace.{other_side}
use Rattle.kb_label.specs.Names.{Name, meet}
use Rattle.kb_label.specs.declared.verdict.Reason.{Reason}
use Rattle.kb_node.specs.declared.node.LabelKind.TheVariants.{E}
use Rattle.mkb_model.specs.Plain.{Plain, PlainNode, pair_in, label_at, rule_kind, other}
use Rattle.mkb_model.specs.Effects.{applied, direction, effect, effect_label, give_up, gains_rule, gains_equation, if_strict, is_present, limit_of, loses, moved_to, node_of, pair_eq, rewrite_label, rewritten, with_node}
use Rattle.mkb_model.specs.Ready.{KeepsPairs}
use Rattle.mkb_model.specs.Journals.{Moment, Follows, IsRun, IsFirstJob, IsCommitting, journal_of, landed}
use Rattle.mkb_model.specs.declared.proposed.Proposed.{Proposed}
use Rattle.mkb_model.specs.declared.proposed.Proposed.TheVariants.{Facts, Rewrite, One, Both, Refuse, Deduce, Unjoined, Closed, Limit}
use Rattle.mkb_model.specs.declared.entry.Effect.{Effect}
use Rattle.mkb_model.specs.declared.entry.Effect.TheVariants.{Over, Made}
use Rattle.mkb_model.specs.declared.entry.Entry.{Entry}
use Rattle.mkb_model.specs.declared.entry.Entry.TheVariants.{Take, Commit, Drop, Abandon, Halt}
use Rattle.mkb_model.specs.declared.settings.Settings.{Settings}
use Rattle.mkb_model.proofs.nodes.Pairs.{pair_eq-refl, found_node, node-with_node, pairs-gains_equation, pairs-gains_rule}
use Rattle.mkb_model.proofs.commits.RoleChanges.{Fits}
use Rattle.mkb_model.proofs.nodes.DistinctPairs.{fits_run, pairs_follow}
use Rattle.mkb_model.proofs.runs.Selections.{legal-possible}
use Rattle.mkb_rules.specs.Applicable.{IsApplicable}
use Rattle.mkb_board.specs.Boards.{Seen, IsLegalBoard}
use Rattle.mkb_board.proofs.There.{applicable}
use Rattle.kb_journal.specs.declared.entry_line.EntryLine.TheVariants as lines
use Rattle.kb_journal.specs.EntryLines.{line_of, made_line, pair_with, IsOnlyNode, IsKept, IsMadeOn, IsEffectOn, IsEntryOn}

-- ---- the node of a pair

present_at : (xs : List PlainNode) (k : ℕ) (q : Pair) → pair_in xs k ≡ Some q → is_present xs q ≡ true
present_at [] k q e = none_some e
present_at (x ∷ xs) zero q e = or_left (pair_eq x.pair q) (is_present xs q) (let same : x.pair ≡ q = cc in subst {A = Pair} (λ z. pair_eq z q ≡ true) (sym same) (pair_eq-refl q))
present_at (x ∷ xs) (suc k) q e = or_right (pair_eq x.pair q) (is_present xs q) (present_at xs k q e)

only_node : (xs : List PlainNode) (k : ℕ) (q : Pair) → Fits xs → pair_in xs k ≡ Some q → IsOnlyNode xs q (node_of xs q)
only_node xs k q f e =
    let there = (found_node xs q (present_at xs k q e)).0 in
    record { there = there; only = λ m h. f.distinct m (node_of xs q) q h there }

-- ---- more nodes

same_node : (xs ys : List PlainNode) (q : Pair) → KeepsPairs xs ys → Fits ys → IsOnlyNode xs q (node_of xs q) → node_of ys q ≡ node_of xs q
same_node xs ys q k f h =
    let there = k (node_of xs q) q h.there in
    f.distinct (node_of ys q) (node_of xs q) q (found_node ys q (present_at ys (node_of xs q) q there)).0 there

kept_on : (xs ys : List PlainNode) (n w : ℕ) (t : Tree) → KeepsPairs xs ys → Fits ys → IsKept xs n w t → IsKept ys n w t
kept_on xs ys n w t k f h = record {
  pair = h.pair;
  there = k n h.pair h.there;
  few = h.few;
  target = λ q e. only_node ys (node_of xs q) q f (k (node_of xs q) q (h.target q e).there);
}

pub made_on : (xs ys : List PlainNode) (x : Proposed) → KeepsPairs xs ys → Fits ys → IsMadeOn xs x → IsMadeOn ys x
made_on xs ys (Facts fs) k f h = tt
made_on xs ys (Rewrite n w at a found t) k f h = kept_on xs ys n.0 w (tree_of t) k f h
made_on xs ys (One p n d c) k f h = tt
made_on xs ys (Both p n c0 c1) k f h = tt
made_on xs ys (Refuse p n) k f h = tt
made_on xs ys (Deduce a c pairs) k f h = tt
made_on xs ys (Unjoined p pairs) k f h = tt
made_on xs ys (Closed p) k f h = tt
made_on xs ys (Limit j cause) k f h = tt

pub entry_on : (xs ys : List PlainNode) (e : Entry) → KeepsPairs xs ys → Fits ys → IsEntryOn xs e → IsEntryOn ys e
entry_on xs ys (Take w t j) k f h = tt
entry_on xs ys (Commit w t (Over r)) k f h = tt
entry_on xs ys (Commit w t (Made x)) k f h = made_on xs ys x k f h
entry_on xs ys (Drop w t p) k f h = tt
entry_on xs ys (Abandon w t) k f h = tt
entry_on xs ys Halt k f h = tt

same_target : (xs ys : List PlainNode) (n w : ℕ) (t : Tree) → KeepsPairs xs ys → Fits ys → IsKept xs n w t → option_map (node_of ys) (pair_with ys n w t) ≡ option_map (node_of xs) (pair_with xs n w t)
same_target xs ys n w t k f h =
    ap (λ o. option_map (node_of ys) (option_and_then (λ q. canonical_pair t (other_side q w)) o)) (k n h.pair h.there)
    ∙ go (canonical_pair t (other_side h.pair w)) refl
    ∙ sym (ap (λ o. option_map (node_of xs) (option_and_then (λ q. canonical_pair t (other_side q w)) o)) h.there)
  where
    go : (o : Option Pair) → canonical_pair t (other_side h.pair w) ≡ o → option_map (node_of ys) o ≡ option_map (node_of xs) o
    go None e = refl
    go (Some q) e = ap Some (same_node xs ys q k f (h.target q e))

same_made : (xs ys : List PlainNode) (t : ℕ) (x : Proposed) → KeepsPairs xs ys → Fits ys → IsMadeOn xs x → made_line ys t x ≡ made_line xs t x
same_made xs ys t (Facts fs) k f h = refl
same_made xs ys t (Rewrite n w at a found u) k f h = ap (λ o. lines.Rewrite t o) (same_target xs ys n.0 w (tree_of u) k f h)
same_made xs ys t (One p n d c) k f h = refl
same_made xs ys t (Both p n c0 c1) k f h = refl
same_made xs ys t (Refuse p n) k f h = refl
same_made xs ys t (Deduce a c pairs) k f h = refl
same_made xs ys t (Unjoined p pairs) k f h = refl
same_made xs ys t (Closed p) k f h = refl
same_made xs ys t (Limit j cause) k f h = refl

-- the line of an entry stays
pub same_line : (xs ys : List PlainNode) (e : Entry) → KeepsPairs xs ys → Fits ys → IsEntryOn xs e → line_of ys e ≡ line_of xs e
same_line xs ys (Take w t j) k f h = refl
same_line xs ys (Commit w t (Over r)) k f h = refl
same_line xs ys (Commit w t (Made x)) k f h = same_made xs ys t x k f h
same_line xs ys (Drop w t p) k f h = refl
same_line xs ys (Abandon w t) k f h = refl
same_line xs ys Halt k f h = refl

-- ---- each entry of a run

pair_moved : (q : Pair) (o : Origin) (rest result : Tree) (le lr ll : List Name) (xs : List PlainNode) → (n : ℕ) × (pair_in (moved_to (Some q) o rest result le lr ll xs) n ≡ Some q)
pair_moved q o rest result le lr ll xs =
    let ys : List PlainNode = with_node q o xs in
    let n : ℕ = node_of ys q in
    let a : RuleRef = record { node = n; dir = direction rest result q } in
    (n, pairs-gains_equation n ll (gains_equation n le (gains_rule a lr ys)) n ∙ pairs-gains_equation n le (gains_rule a lr ys) n ∙ pairs-gains_rule a lr ys n ∙ (node-with_node q o xs).0)

-- the new pair of a rewriting has a node
target_there : (b : Plain) (n w : ℕ) (at : List ℕ) (a : RuleRef) (found : Found) (t : Tree) (p q : Pair) (l : List Name) → canonical_pair t (other_side p w) ≡ Some q → (k : ℕ) × (pair_in (rewritten l n w at a found t p b.nodes) k ≡ Some q)
target_there b n w at a found t p q l e =
    subst {A = Option Pair}
    (λ o. (k : ℕ) × (pair_in (moved_to o (ByRewrite n w at a) (other_side p w) t (meet l (label_at b.nodes n E)) (meet l (label_at b.nodes n (rule_kind (other w)))) (if_strict found (meet l (label_at b.nodes n (rule_kind w)))) (loses n E l (loses n (rule_kind (other w)) l (loses n (rule_kind w) (if_strict found l) b.nodes)))) k ≡ Some q))
    (sym e) (pair_moved q (ByRewrite n w at a) (other_side p w) t _ _ _ _)

-- what was committed without a limit is applied
module _ (P : Problem) (s : Settings) (past : List Moment) (b c : Plain) (within : IsWithinLimits P) (run : IsRun P s past b) (w t : ℕ) (e : Effect) (f : IsCommitting past b w t e c) (fits : Fits c.nodes) (keeps : KeepsPairs b.nodes c.nodes) where
  nodes_are : (x : Proposed) → f.proposal ≡ x → limit_of b x ≡ None → c.nodes ≡ (applied b x).nodes
  nodes_are x is none =
      ap (λ (z : Plain). z.nodes) (f.leads_to ∙ ap (λ (y : Proposed). landed t (effect b y)) is)
      ∙ ap (λ (o : Option Reason). (option_map_or (λ r. give_up r (effect_label b x) b) o (applied b x)).nodes) none

  is_applicable : (x : Proposed) → f.proposal ≡ x → IsApplicable b x
  is_applicable x is = subst {A = Proposed} (IsApplicable b) is (applicable P s past b (legal-possible P s past b run) w t f.job f.proposal f.finishing within f.acts)

  made_there : (x : Proposed) → f.proposal ≡ x → limit_of b x ≡ None → IsMadeOn c.nodes x
  made_there (Facts fs) is none = tt
  made_there (Rewrite n v at a found u) is none =
      let named = is_applicable (Rewrite n v at a found u) is in
      let p = there_pair b.nodes n.0 named.0.0 in
      let nodes : c.nodes ≡ rewritten (rewrite_label b n.0 v a found) n.0 v at a found (tree_of u) p.0 b.nodes =
      nodes_are (Rewrite n v at a found u) is none ∙ ap (λ (o : Option Pair). option_map_or (λ q. rewritten (rewrite_label b n.0 v a found) n.0 v at a found (tree_of u) q) o (λ xs. xs) b.nodes) p.1 in
      record {
        pair = p.0;
        there = keeps n.0 p.0 p.1;
        few = named.1 p.0 p.1;
        target = λ q h.
            let k = target_there b n.0 v at a found (tree_of u) p.0 q (rewrite_label b n.0 v a found) h in
            only_node c.nodes k.0 q fits (subst {A = List PlainNode} (λ xs. pair_in xs k.0 ≡ Some q) (sym nodes) k.1);
      }
  made_there (One p n d c0) is none = tt
  made_there (Both p n c0 c1) is none = tt
  made_there (Refuse p n) is none = tt
  made_there (Deduce a d pairs) is none = tt
  made_there (Unjoined p pairs) is none = tt
  made_there (Closed p) is none = tt
  made_there (Limit j cause) is none = tt

  committed_on : IsEffectOn c.nodes e
  committed_on = subst {A = Effect} (IsEffectOn c.nodes) (sym f.names_effect) (go (limit_of b f.proposal) refl)
    where
      go : (o : Option Reason) → limit_of b f.proposal ≡ o → IsEffectOn c.nodes (option_map_or Over o (Made f.proposal))
      go (Some r) h = tt
      go None h = made_there f.proposal refl h

follow_on : (P : Problem) (s : Settings) (past : List Moment) (b : Plain) (e : Entry) (c : Plain) → IsWithinLimits P → IsRun P s past b → Follows IsFirstJob past b e c → Fits c.nodes → IsEntryOn c.nodes e
follow_on P s past b (Take w t j) c within run f fits = tt
follow_on P s past b (Commit w t e) c within run f fits = committed_on P s past b c within run w t e f fits (pairs_follow IsFirstJob past b (Commit w t e) c f)
follow_on P s past b (Drop w t p) c within run f fits = tt
follow_on P s past b (Abandon w t) c within run f fits = tt
follow_on P s past b Halt c within run f fits = tt

all_on : (xs ys : List PlainNode) (J : List Entry) → KeepsPairs xs ys → Fits ys → All (IsEntryOn xs) J → All (IsEntryOn ys) J
all_on xs ys [] k f h = All-nil (IsEntryOn ys)
all_on xs ys (e ∷ J) k f h = All-cons (IsEntryOn ys) e J (entry_on xs ys e k f (All-head (IsEntryOn xs) e J h)) (all_on xs ys J k f (All-tail (IsEntryOn xs) e J h))

pub run_on : (P : Problem) (s : Settings) (ms : List Moment) (c : Plain) → IsWithinLimits P → IsRun P s ms c → All (IsEntryOn c.nodes) (journal_of ms)
run_on P s [] c within run = All-nil (IsEntryOn c.nodes)
run_on P s (m ∷ ms) c within (run, f) =
    let fits = fits_run IsFirstJob P s (m ∷ ms) c (run, f) in
    All-push (IsEntryOn c.nodes) (journal_of ms) m.entry
    (all_on m.board.nodes c.nodes (journal_of ms) (pairs_follow IsFirstJob ms m.board m.entry c f) fits (run_on P s ms m.board within run))
    (follow_on P s ms m.board m.entry c within run f fits)

-- what a legal board keeps
pub board_on : (b : Seen) → IsLegalBoard b → All (IsEntryOn b.plain.nodes) b.journal
board_on b legal = let r = legal.after in subst {A = List Entry} (All (IsEntryOn b.plain.nodes)) r.1 (run_on b.plain.problem b.plain.settings r.0 b.plain legal.within r.2)

-- ---- the node of a rewriting's new pair

module _ (xs : List PlainNode) (n w : ℕ) (t : Tree) (p : Pair) (there : pair_in xs n ≡ Some p) where
  pair_is : (o : Option Pair) → canonical_pair t (other_side p w) ≡ o → option_map (node_of xs) o ≡ option_map (node_of xs) (pair_with xs n w t)
  pair_is o e = ap (option_map (node_of xs)) (sym e ∙ sym (ap (λ z. option_and_then (λ q. canonical_pair t (other_side q w)) z) there))

  pub no_target : canonical_pair t (other_side p w) ≡ None → None ≡ option_map (node_of xs) (pair_with xs n w t)
  no_target e = pair_is None e

  pub one_target : (q : Pair) (o : Option ℕ) → canonical_pair t (other_side p w) ≡ Some q → o ≡ Some (node_of xs q) → o ≡ option_map (node_of xs) (pair_with xs n w t)
  one_target q o e h = h ∙ pair_is (Some q) e

-- the new pair of what is kept has one node
pub kept_target : (xs : List PlainNode) (n w : ℕ) (t : Tree) (p q : Pair) → IsKept xs n w t → pair_in xs n ≡ Some p → canonical_pair t (other_side p w) ≡ Some q → IsOnlyNode xs q (node_of xs q)
kept_target xs n w t p q h there e =
    let some : Some h.pair ≡ Some p = sym h.there ∙ there in
    let same : h.pair ≡ p = cc in
    h.target q (ap (λ z. canonical_pair t (other_side z w)) same ∙ e)
