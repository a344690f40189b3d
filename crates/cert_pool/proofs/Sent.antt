-- A pool may be shared by threads.
use denote.Struct.Declared as S
use denote.Param.Send.{IsSend, IsSync, sendable, recorded_sync, struct_sync}
use Rattle.std.proofs.Crossing.{crosses}
use Rattle.kb_term.proofs.Crossing.{rule_send, rule_sync}
use Rattle.kb_cert.proofs.certificate.Certificate.TheSendSync as certificate
use Rattle.boxcar.proofs.vec.Vec.TheSendSync as kept
use Rattle.cert_pool.specs.contracts.pool.Found as Found
use Rattle.cert_pool.specs.contracts.pool.CertPool as CertPool

pub found_send : IsSend Found.the_row
found_send = search (sendable, crosses, rule_send, certificate.the_send) depth 40 fits 100000

pub found_sync : IsSync Found.the_row
found_sync = search (sendable, crosses, rule_sync, certificate.the_sync) depth 40 fits 100000

pub pool_sync : IsSync CertPool.the_row
pool_sync = recorded_sync (CertPool.the_field).row _ _ (CertPool.the_type).to_one (struct_sync (S.shape CertPool.the_type) (
  search (sendable, crosses),
  (search (sendable, crosses, kept.the_sync, found_send, found_sync) depth 40 fits 100000, (search (sendable, crosses) depth 20, tt)),
))
