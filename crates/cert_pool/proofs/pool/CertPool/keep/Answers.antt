use Rattle.cert_pool.proofs.Deciding.{copies_answer}
use Rattle.cert_pool.proofs.pool.CertPool.keep.Goals as goal

pub push-requires : goal.push-requires
push-requires g c i =
    copies_answer c.args.keys.now.family c.args.sig.now c.in_ok-clone.field-0 c.args.rules.now c.in_ok-to_vec.field-0.items c.args.answer.now c.in_ok-copy_of.field-0
    c.in_ok-clone.ensures.cases (c.in_ok-to_vec.ensures.items_if_clones_equal (λ x y e. e)) c.in_ok-copy_of.ensures c.requires
