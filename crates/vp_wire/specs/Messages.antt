-- Reading the fields of a message, by the version and its kind.
use Rattle.std.specs.Prelude.{ℕ, List, Result, Ok, cond, ◌==◌}
use Rattle.vp_text.specs.Reading.{◌>>=◌}
use Rattle.vp_base.specs.declared.message.Obstacle.{Obstacle}
use Rattle.vp_base.specs.declared.message.Obstacle.TheVariants as obstacle
use Rattle.vp_base.specs.declared.message.Message.{Message}
use Rattle.vp_base.specs.declared.message.Message.TheVariants as message
use Rattle.vp_wire.specs.declared.kind.MessageKind.{MessageKind}
use Rattle.vp_wire.specs.declared.kind.MessageKind.TheVariants as kinds
use Rattle.vp_contents.specs.Contents.{content_at}
use Rattle.vp_contents.specs.Changes.{writes_at}
use Rattle.vp_contents.specs.Copies.{stored_at}
use Rattle.vp_contents.specs.declared.version.Version.{Version}
use Rattle.vp_contents.specs.declared.version.Version.TheVariants as versions
use Rattle.vp_bytes.specs.Reading.{byte_at, within, view_at, txn_at, numbered_at, request_at, sites_at, recs_at, outcome_at, owner_at, maybe_view_at, u32_at}

-- the greatest mark of an obstacle: the first version has no bar
abbrev pub last_mark : Version → ℕ
last_mark versions.First = 2
last_mark versions.Second = 3

-- 1 and an owner, 2 and a view or none, or in the second version 3 and the weights of a bar
unfoldable pub obstacle_at : Version → List ℕ → Result (Obstacle × List ℕ) ℕ
obstacle_at version bytes = do
  mark ← byte_at (within 1 (last_mark version)) bytes
  cond (mark.0 == 1) (owner_at mark.1 >>= λ x. Ok (obstacle.Held x.0, x.1))
      (cond (mark.0 == 2) (maybe_view_at mark.1 >>= λ x. Ok (obstacle.OtherView x.0, x.1))
      (u32_at mark.1 >>= λ inside. u32_at inside.1 >>= λ total. Ok (obstacle.Barred inside.0 total.0, total.1)))

unfoldable pub message_at : Version → MessageKind → List ℕ → Result (Message × List ℕ) ℕ
message_at version kinds.Invite bytes = do
  id ← view_at bytes
  Ok (message.Invite id.0, id.1)
message_at version kinds.Accept bytes = do
  id ← view_at bytes
  Ok (message.Accept id.0, id.1)
message_at version kinds.Stale bytes = do
  id ← view_at bytes
  promise ← view_at id.1
  Ok (message.Stale id.0 promise.0, promise.1)
message_at version kinds.ViewCommit bytes = do
  id ← view_at bytes
  members ← sites_at 1 id.1
  Ok (message.ViewCommit id.0 members.0, members.1)
message_at version kinds.ReadRequest bytes = do
  asked ← request_at bytes
  rec ← byte_at (within 0 255) asked.1
  Ok (message.ReadRequest asked.0.0 asked.0.1 asked.0.2 rec.0, rec.1)
message_at version kinds.ReadAnswer bytes = do
  numbered ← numbered_at bytes
  value ← content_at version numbered.1
  Ok (message.ReadAnswer numbered.0.0 numbered.0.1 value.0, value.1)
message_at version kinds.WriteRequest bytes = do
  asked ← request_at bytes
  rec ← byte_at (within 0 255) asked.1
  Ok (message.WriteRequest asked.0.0 asked.0.1 asked.0.2 rec.0, rec.1)
message_at version kinds.WriteAnswer bytes = do
  numbered ← numbered_at bytes
  Ok (message.WriteAnswer numbered.0.0 numbered.0.1, numbered.1)
message_at version kinds.Refuse bytes = do
  numbered ← numbered_at bytes
  why ← obstacle_at version numbered.1
  Ok (message.Refuse numbered.0.0 numbered.0.1 why.0, why.1)
message_at version kinds.Prepare bytes = do
  asked ← request_at bytes
  reads ← recs_at asked.1
  writes ← writes_at version reads.1
  Ok (message.Prepare asked.0.0 asked.0.1 asked.0.2 reads.0 writes.0, writes.1)
message_at version kinds.Vote bytes = do
  txn ← txn_at bytes
  Ok (message.Vote txn.0, txn.1)
message_at version kinds.Outcome bytes = do
  txn ← txn_at bytes
  commit ← outcome_at txn.1
  Ok (message.Outcome txn.0 commit.0, commit.1)
message_at version kinds.Ack bytes = do
  txn ← txn_at bytes
  Ok (message.Ack txn.0, txn.1)
message_at version kinds.Inquire bytes = do
  txn ← txn_at bytes
  Ok (message.Inquire txn.0, txn.1)
message_at version kinds.RefreshRequest bytes = do
  view ← view_at bytes
  rec ← byte_at (within 0 255) view.1
  Ok (message.RefreshRequest view.0 rec.0, rec.1)
message_at version kinds.RefreshAnswer bytes = do
  view ← view_at bytes
  rec ← byte_at (within 0 255) view.1
  stored ← stored_at version rec.1
  Ok (message.RefreshAnswer view.0 rec.0 stored.0, stored.1)
message_at version kinds.Probe bytes = do
  view ← view_at bytes
  Ok (message.Probe view.0, view.1)
