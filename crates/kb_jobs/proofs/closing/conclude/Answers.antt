use Rattle.std.proofs.Common.{◌≡◌, inr, refl, ap, sym, subst, List, [], ◌∷◌, length, Option, arith}
use Rattle.std.proofs.lemmas.List.{length-map}
use Rattle.kb_label.specs.declared.verdict.Reason.{Reason}
use Rattle.kb_node.specs.declared.job.Deduced.{Deduced}
use Rattle.kb_term.specs.Pair.{Pair}
use Rattle.mkb_model.specs.Plain.{sides}
use Rattle.mkb_model.specs.Proposals.{AreDeduced}
use Rattle.mkb_model.specs.declared.proposed.Proposed.{Proposed}
use Rattle.kb_jobs.specs.Closing.{LimitsInputs, ProposesClose, equations_of}
use Rattle.kb_jobs.proofs.closing.conclude.Goals as goal

-- no equations
no_members : (qs : List Pair) → length qs ≡ 0 → equations_of qs ≡ []
no_members [] h = refl
no_members (q ∷ qs) h = absurd (omega (arith, h))

pub returns-then-seen : goal.returns-then-seen
returns-then-seen c =
    let a = c.requires.settled in (
      refl,
      record {
        overlaps = a.0;
        all = a.1;
        formed = a.2.formed;
        listed = a.2.apart;
        picked = a.2.picked;
        some = a.2.some c.if-seen.true;
        proposed = subst {A = List Deduced} (λ z. AreDeduced z a.2.apart) (sym c.new.ensures) a.2.proposed;
      },
    )

pub returns-then-len-gt0 : goal.returns-then-len-gt0
returns-then-len-gt0 c =
    let a = c.requires.settled in
    let qs = c.args.s.now.equations.items in (
      refl,
      record {
        overlaps = a.0;
        all = a.1;
        joined = a.2.joined c.if-seen.false;
        formed = λ e. absurd (let n : length (equations_of qs) ≡ 0 = ap length e in omega (arith, n, length-map qs sides, c.len.ensures, c.if-len-gt0.true));
      },
    )

pub returns-in-Some : goal.returns-in-Some
returns-in-Some c =
    let s = c.args.s.now in
    let a = c.requires.settled in
    let none : length s.equations.items ≡ 0 = omega (arith, c.len.ensures, c.if-len-gt0.false) in
    subst {A = Proposed} (ProposesClose s) (sym c.stopped.ensures) (
      refl,
      (refl, inr (record { overlaps = a.0; all = a.1; joined = a.2.joined c.if-seen.false; no_equation = no_members s.equations.items none; first = subst {A = Option Reason} (LimitsInputs s) c.in-Some.is c.in_ok-reason.ensures })),
    )

pub returns : goal.returns
returns c =
    let s = c.args.s.now in
    let a = c.requires.settled in
    (refl, record { overlaps = a.0; all = a.1; joined = a.2.joined c.if-seen.false; formed = λ e. subst {A = Option Reason} (LimitsInputs s) c.in-None.is c.in_ok-reason.ensures })
