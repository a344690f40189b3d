-- What is known of a board that a legal journal leads to.
use Rattle.std.proofs.Common.{ℕ, zero, suc, ◌+◌, ◌≤◌, ◌≡◌, ◌∙◌, refl, sym, ap, subst, arith, length-append, List, [], ◌∷◌, map, take, filter, flat_map, length, Contains, Bool, true, false, cond, Option, Some, None, slice_get}
use Rattle.std.specs.Prelude.{option_map, IsTrue}
use Rattle.std.proofs.lemmas.Option.{slice_get-map}
use Rattle.std.proofs.lemmas.List.Elements.{filter-append}
use Rattle.kb_lemmas.proofs.Membership.{slice_contains}
use Rattle.kb_lemmas.proofs.Options.{some_of_map}
use Rattle.kb_term.specs.Tree.{Tree}
use Rattle.kb_term.specs.Pair.{Pair}
use Rattle.kb_term.specs.declared.origin.RuleRef.{RuleRef}
use Rattle.kb_term.specs.declared.origin.Origin.{Origin}
use Rattle.kb_overlap.specs.Trace.{FollowsBy, IsOriginOfForm}
use Rattle.kb_cert.specs.Family.{Orders}
use Rattle.kb_cert.proofs.Members.{first_contained}
use Rattle.kb_cert.specs.declared.certificate.Certificate.{Certificate}
use Rattle.kb_laws.specs.Complete.{IsCompleteSystem}
use Rattle.kb_laws.specs.Overlaps.{OverlapsClose, HaveOneNormalForm}
use Rattle.kb_label.specs.Names.{Name, has}
use Rattle.kb_label.specs.declared.verdict.Verdict.TheVariants.{Complete}
use Rattle.mkb_model.specs.Plain.{Plain, PlainNode, orders_of, numbers_from, directions, is_rule, is_constraint, rules_of, constraints_of, rules_at, pair_in, certificate_of}
use Rattle.mkb_model.specs.Verdicts.{verdict}
use Rattle.mkb_model.specs.Journals.{IsPossibleRun, IsFreeJob, tickets}
use Rattle.mkb_model.specs.Invariants.{IsSound, PairsFollow}
use Rattle.mkb_model.specs.Limits.{AreLimited}
use Rattle.mkb_model.specs.GoodAnswers.{IsGoodAnswer}
use Rattle.mkb_model.proofs.commits.RoleChanges.{Fits}
use Rattle.mkb_model.proofs.nodes.DistinctPairs.{fits_run}
use Rattle.mkb_model.proofs.Lists.{clash}
use Rattle.mkb_model.proofs.runs.Meanings.{verdict_means}
use Rattle.mkb_model.proofs.runs.Selections.{legal-possible}
use Rattle.mkb_model.proofs.nodes.OriginForms.{origins_of_form}
use Rattle.mkb_model.proofs.runs.AllInvariants.{boards_sound}
use Rattle.mkb_model.proofs.nodes.Sizes.{limited_run}
use Rattle.mkb_model.proofs.closing.Completed.{good_answer}
use Rattle.mkb_report.specs.Reports.{IsReached, pairs_of}
use Rattle.mkb_report.proofs.OneWay.{one_way}
use Rattle.mkb_report.proofs.Traces.{OriginsAreRight, node_pair, follows_alike}

-- the process lives, its rules are a complete system for the problem by its certificate, which orders its constraints, and what the checker looks at besides
pub record IsGoodProcess (b : Plain) (p : Name) : Type 0 where
  pub lives : IsTrue (has b.living p)
  pub certificate : Certificate
  pub there : certificate_of b p ≡ Some certificate
  pub member : Contains (orders_of b) certificate
  pub orders : Orders certificate (rules_at b (constraints_of b p))
  pub system : IsCompleteSystem b.problem certificate (rules_at b (rules_of b p))
  pub overlaps : OverlapsClose (rules_at b (rules_of b p))
  pub inputs : (e : Tree × Tree) → Contains b.problem.equations e → HaveOneNormalForm (rules_at b (rules_of b p)) e.0 e.1

-- ---- pairs and origins of nodes

paired : (o : Option PlainNode) → option_map (λ (x : Pair × Origin). x.0) (option_map (λ (x : PlainNode). (x.pair, x.origin)) o) ≡ option_map (λ (x : PlainNode). x.pair) o
paired None = refl
paired (Some x) = refl

-- the pair of a node of the list is that of the node
pub pair_of_node : (xs : List PlainNode) (m : ℕ) → node_pair (map (λ (x : PlainNode). (x.pair, x.origin)) xs) m ≡ pair_in xs m
pair_of_node xs m = ap (option_map (λ (x : Pair × Origin). x.0)) (slice_get-map (λ (x : PlainNode). (x.pair, x.origin)) xs m) ∙ paired (slice_get xs m)

take-map : {X Y : Type 0} (f : X → Y) (n : ℕ) (xs : List X) → take n (map f xs) ≡ map f (take n xs)
take-map f zero xs = refl
take-map f (suc n) [] = refl
take-map f (suc n) (x ∷ xs) = ap (f x ∷◌) (take-map f n xs)

pair_of_first : (xs : List PlainNode) (n m : ℕ) → node_pair (take n (map (λ (x : PlainNode). (x.pair, x.origin)) xs)) m ≡ pair_in (take n xs) m
pair_of_first xs n m = ap (λ (ys : List (Pair × Origin)). node_pair ys m) (take-map (λ (x : PlainNode). (x.pair, x.origin)) n xs) ∙ pair_of_node (take n xs) m

origins_right : (b : Plain) → PairsFollow b → ((x : PlainNode) → Contains b.nodes x → IsOriginOfForm x.origin) → OriginsAreRight b.problem.equations (pairs_of b)
origins_right b h formed n x e =
    let y = some_of_map (λ (z : PlainNode). (z.pair, z.origin)) (slice_get b.nodes n) x (sym (slice_get-map (λ (z : PlainNode). (z.pair, z.origin)) b.nodes n) ∙ e) in (
      subst (λ (z : Pair × Origin). IsOriginOfForm z.1) y.2 (formed y.0 (slice_contains b.nodes n y.0 y.1)),
      follows_alike b.problem.equations (pair_in (take n b.nodes)) (node_pair (take n (pairs_of b))) x.1 x.0 (λ m. sym (pair_of_first b.nodes n m))
          (subst (λ (z : Pair × Origin). FollowsBy b.problem.equations (pair_in (take n b.nodes)) z.1 z.0) y.2 (h n y.0 y.1)),
    )

-- ---- at most one rule for each node

module _ (F : RuleRef → Bool) (one : (n : ℕ) → F (record { node = n; dir = 0 }) ≡ true → F (record { node = n; dir = 1 }) ≡ true → ⊥) where
  one_of_two : (n : ℕ) → length {A = RuleRef} (filter F (directions n)) ≤ 1
  one_of_two n = go (F (record { node = n; dir = 0 })) (F (record { node = n; dir = 1 })) refl refl
    where
      go : (x y : Bool) → F (record { node = n; dir = 0 }) ≡ x → F (record { node = n; dir = 1 }) ≡ y
          → length {A = RuleRef} (cond x (record { node = n; dir = 0 } ∷ cond y (record { node = n; dir = 1 } ∷ []) []) (cond y (record { node = n; dir = 1 } ∷ []) [])) ≤ 1
      go true true e f = absurd (one n e f)
      go true false e f = omega arith
      go false true e f = omega arith
      go false false e f = omega arith

  few_passing : (n k : ℕ) → length (filter F (flat_map directions (numbers_from n k))) ≤ k
  few_passing n zero = omega arith
  few_passing n (suc k) =
      let rest = flat_map directions (numbers_from (n + 1) k) in
      omega (arith, ap length (filter-append F (directions n) rest), length-append (filter F (directions n)) (filter F rest), one_of_two n, few_passing (n + 1) k)

module _ (b : Plain) (r : IsReached b) where
  run : IsPossibleRun b.problem b.settings r.after.0 (record b { flight = r.flight })
  run = legal-possible b.problem b.settings r.after.0 (record b { flight = r.flight }) r.after.2

  sound : IsSound (tickets r.after.0) (record b { flight = r.flight })
  sound = boards_sound b.problem b.settings r.after.0 (record b { flight = r.flight }) r.within run

  pub right : OriginsAreRight b.problem.equations (pairs_of b)
  right = origins_right b sound.pairs_follow (origins_of_form b.problem b.settings r.after.0 (record b { flight = r.flight }) run)

  pub limited : AreLimited b.problem.signature b.nodes
  limited = limited_run b.problem b.settings r.after.0 (record b { flight = r.flight }) r.within run

  pub fits : Fits b.nodes
  fits = fits_run IsFreeJob b.problem b.settings r.after.0 (record b { flight = r.flight }) run

  pub good : (p : Name) → verdict b ≡ Some (Complete p) → IsGoodProcess b p
  good p stands =
      let h : IsGoodAnswer b.problem (record b { flight = r.flight }) p = good_answer b.problem b.settings r.after.0 (record b { flight = r.flight }) p r.within run stands in
      record { lives = (verdict_means (record b { flight = r.flight }) (Complete p) stands).lives; certificate = h.certified.certificate; there = h.certified.there; member = first_contained b.settings.family b.problem.signature (rules_at b (constraints_of b p)) h.certified.certificate h.certified.first; orders = h.certified.first.0; system = h.system; overlaps = h.overlaps; inputs = h.inputs }

  -- a process has at most as many rules as there are nodes, and a good one at most as many constraints
  pub few_rules : (p : Name) → length (rules_of b p) ≤ length b.nodes
  few_rules p = few_passing (is_rule b p) (λ n e f. clash f ((sound.one_role p n).not_both_rules e)) 0 (length b.nodes)

pub few_constraints : (b : Plain) (p : Name) → IsGoodProcess b p → length (constraints_of b p) ≤ length b.nodes
few_constraints b p g = few_passing (is_constraint b p) (one_way b p g.certificate g.orders) 0 (length b.nodes)
