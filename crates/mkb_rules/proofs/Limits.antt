-- Commits that meet no limit, and those that meet one.
use Rattle.std.proofs.Common.{◌≡◌, ◌<◌, ◌≤◌, ◌+◌, true, false, List, [], ◌∷◌, length, map, nat_le, nat_lt, Option, Some, None, ap, sym, ◌∙◌, arith}
use Rattle.std.specs.Option.{option_map_or}
use Rattle.std.proofs.lemmas.Bool.Decides.{nat_tests}
use Rattle.kb_label.specs.Names.{Name, child, relabel}
use Rattle.kb_label.specs.declared.verdict.Reason.{Reason}
use Rattle.kb_label.specs.declared.verdict.Reason.TheVariants.{Nodes, Processes}
use Rattle.kb_cert.specs.declared.certificate.Certificate.{Certificate}
use Rattle.kb_node.specs.declared.node.NodeId.{NodeId}
use Rattle.mkb_model.specs.Plain.{Certified, Plain, PlainNode}
use Rattle.mkb_model.specs.Effects.{applied, certify_in, counted, effect_label, first_some, forked_certificates, forked_node, give_up, limit_of, most_living, oriented, some_if}
use Rattle.mkb_model.specs.declared.proposed.Proposed.{Proposed}
use Rattle.mkb_model.specs.declared.proposed.Proposed.TheVariants.{Both}
use Rattle.mkb_rules.specs.Applying.{applied_as, Commits}
use Rattle.mkb_rules.specs.Forking.{with_parts, IsForkOf}
use Rattle.mkb_rules.specs.declared.effects.forking.Forked.{Forked}
use Rattle.mkb_rules.specs.declared.applied.Applied.TheVariants.{Done, Over}

pub committed : (b c : Plain) (x : Proposed) → limit_of b x ≡ None → c ≡ counted (applied b x) → Commits b x c Done
committed b c x h e = (e ∙ sym (ap (λ (o : Option Reason). counted (option_map_or (λ r. give_up r (effect_label b x) b) o (applied b x))) h), sym (ap applied_as h))

pub stopped : (b c : Plain) (x : Proposed) (r : Reason) (l : List Name) → limit_of b x ≡ Some r → l ≡ effect_label b x → c ≡ counted (give_up r l b) → Commits b x c (Over r)
stopped b c x r l h k e =
    (e ∙ ap (λ (m : List Name). counted (give_up r m b)) k ∙ sym (ap (λ (o : Option Reason). counted (option_map_or (λ s. give_up s (effect_label b x) b) o (applied b x))) h), sym (ap applied_as h))

pub fork_room : (b : Plain) (p : Name) (n : NodeId) (c0 c1 : Certificate) → length b.living < most_living → length b.nodes ≤ 4096 → limit_of b (Both p n c0 c1) ≡ None
fork_room b p n c0 c1 few room =
    let e : nat_le most_living (length b.living) ≡ false = grind (arith, nat_tests) in
    let f : nat_lt 4096 (length b.nodes) ≡ false = grind (arith, nat_tests) in
    (λ i. first_some (None ∷ some_if (e i) Processes ∷ some_if (f i) Nodes ∷ []))

pub fork_crowded : (b : Plain) (p : Name) (n : NodeId) (c0 c1 : Certificate) → most_living ≤ length b.living → limit_of b (Both p n c0 c1) ≡ Some Processes
fork_crowded b p n c0 c1 many =
    let e : nat_le most_living (length b.living) ≡ true = grind (arith, nat_tests) in
    (λ i. first_some (None ∷ some_if (e i) Processes ∷ some_if (nat_lt 4096 (length b.nodes)) Nodes ∷ []))

-- the nodes after the fork
abbrev pub fork_of_nodes : Name → NodeId → List PlainNode → List PlainNode
fork_of_nodes p n xs = oriented (child p true) (record { node = n.0; dir = 1 }) (oriented (child p false) (record { node = n.0; dir = 0 }) (map (forked_node p) xs))

-- the orders after the fork
abbrev pub fork_of_orders : Name → Certificate → Certificate → List Certified → List Certified
fork_of_orders p c0 c1 cs = certify_in (child p true) c1 (certify_in (child p false) c0 (forked_certificates p cs))

pub fork_made : (b mid : Plain) (parts : Forked) (p : Name) (n : NodeId) (c0 c1 : Certificate) → IsForkOf b p parts → mid ≡ record b { living = relabel p b.living; nodes = fork_of_nodes p n b.nodes; certificates = fork_of_orders p c0 c1 b.certificates } → counted (with_parts parts mid) ≡ counted (applied b (Both p n c0 c1))
fork_made b mid parts p n c0 c1 h e =
    ap (λ (m : Plain). counted (with_parts parts m)) e
    ∙ (λ i. record {
      problem = b.problem;
      settings = b.settings;
      living = relabel p b.living;
      nodes = fork_of_nodes p n b.nodes;
      done = h.done i;
      facts = b.facts;
      closed = h.closed i;
      over = h.over i;
      asleep = h.asleep i;
      commits = b.commits + 1;
      flight = b.flight;
      certificates = fork_of_orders p c0 c1 b.certificates;
    })
