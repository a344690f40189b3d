use Rattle.std.proofs.Common.{[]}
use Rattle.mkb_rules.proofs.state.State.start.Goals as goal

pub returns-in-Ok : goal.returns-in-Ok
returns-in-Ok c =
    let parts = c.in-Ok.ensures in
    (λ i. record {
      problem = c.args.problem;
      settings = c.args.settings;
      living = parts.log i;
      nodes = parts.nodes i;
      done = c.new.ensures i;
      facts = c.new-in-Ok.ensures i;
      closed = c.new-in-Ok-2.ensures [] i;
      over = c.nobody.ensures i;
      asleep = parts.asleep i;
      commits = 0;
      flight = [];
      certificates = parts.certificates i;
    })
