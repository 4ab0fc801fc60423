-- Reading the fields of an answer, by the version and its kind.
use Rattle.std.specs.Prelude.{ℕ, List, Result, Ok}
use Rattle.vp_text.specs.Reading.{◌>>=◌}
use Rattle.vp_base.specs.declared.answer.Answer.{Answer}
use Rattle.vp_base.specs.declared.answer.Answer.TheVariants as answer
use Rattle.vp_wire.specs.declared.kind.AnswerKind.{AnswerKind}
use Rattle.vp_wire.specs.declared.kind.AnswerKind.TheVariants as kinds
use Rattle.vp_contents.specs.Values.{value_at}
use Rattle.vp_contents.specs.declared.version.Version.{Version}
use Rattle.vp_bytes.specs.Reading.{byte_at, within, view_at, txn_at, numbered_at, name_at, u32_at, u64_at, owner_at, maybe_view_at}

unfoldable pub answer_at : Version → AnswerKind → List ℕ → Result (Answer × List ℕ) ℕ
answer_at version kinds.Begun bytes = do
  txn ← txn_at bytes
  view ← view_at txn.1
  Ok (answer.Begun txn.0 view.0, view.1)
answer_at version kinds.Value bytes = do
  numbered ← numbered_at bytes
  value ← value_at version numbered.1
  Ok (answer.Value numbered.0.0 numbered.0.1 value.0, value.1)
answer_at version kinds.Written bytes = do
  numbered ← numbered_at bytes
  Ok (answer.Written numbered.0.0 numbered.0.1, numbered.1)
answer_at version kinds.Committed bytes = do
  numbered ← numbered_at bytes
  Ok (answer.Committed numbered.0.0 numbered.0.1, numbered.1)
answer_at version kinds.Aborted bytes = do
  numbered ← numbered_at bytes
  Ok (answer.Aborted numbered.0.0 numbered.0.1, numbered.1)
answer_at version kinds.Inviting bytes = do
  view ← view_at bytes
  Ok (answer.Inviting view.0, view.1)
answer_at version kinds.NoView bytes = do
  promise ← view_at bytes
  Ok (answer.NoView promise.0, promise.1)
answer_at version kinds.Unknown bytes = do
  txn ← txn_at bytes
  Ok (answer.Unknown txn.0, txn.1)
answer_at version kinds.Skipped bytes = do
  numbered ← numbered_at bytes
  Ok (answer.Skipped numbered.0.0 numbered.0.1, numbered.1)
answer_at version kinds.Busy bytes = do
  numbered ← numbered_at bytes
  Ok (answer.Busy numbered.0.0 numbered.0.1, numbered.1)
answer_at version kinds.NoRecord bytes = do
  numbered ← numbered_at bytes
  Ok (answer.NoRecord numbered.0.0 numbered.0.1, numbered.1)
answer_at version kinds.TooManyOps bytes = do
  numbered ← numbered_at bytes
  Ok (answer.TooManyOps numbered.0.0 numbered.0.1, numbered.1)
answer_at version kinds.Inaccessible bytes = do
  numbered ← numbered_at bytes
  name ← name_at numbered.1
  inside ← u32_at name.1
  total ← u32_at inside.1
  Ok (answer.Inaccessible numbered.0.0 numbered.0.1 name.0 inside.0 total.0, total.1)
answer_at version kinds.LockHeld bytes = do
  numbered ← numbered_at bytes
  name ← name_at numbered.1
  at ← byte_at (within 1 16) name.1
  owner ← owner_at at.1
  Ok (answer.LockHeld numbered.0.0 numbered.0.1 name.0 at.0 owner.0, owner.1)
answer_at version kinds.ViewChanged bytes = do
  numbered ← numbered_at bytes
  at ← byte_at (within 1 16) numbered.1
  held ← view_at at.1
  now ← maybe_view_at held.1
  Ok (answer.ViewChanged numbered.0.0 numbered.0.1 at.0 held.0 now.0, now.1)
answer_at version kinds.TimedOut bytes = do
  numbered ← numbered_at bytes
  at ← byte_at (within 1 16) numbered.1
  Ok (answer.TimedOut numbered.0.0 numbered.0.1 at.0, at.1)
answer_at version kinds.Spent bytes = do
  number ← u64_at bytes
  Ok (answer.Spent number.0, number.1)
answer_at version kinds.TooManyLive bytes = Ok (answer.TooManyLive, bytes)
answer_at version kinds.Absent bytes = do
  numbered ← numbered_at bytes
  Ok (answer.Absent numbered.0.0 numbered.0.1, numbered.1)
answer_at version kinds.Deleted bytes = do
  numbered ← numbered_at bytes
  Ok (answer.Deleted numbered.0.0 numbered.0.1, numbered.1)
answer_at version kinds.Weighed bytes = do
  numbered ← numbered_at bytes
  Ok (answer.Weighed numbered.0.0 numbered.0.1, numbered.1)
answer_at version kinds.BadTable bytes = do
  numbered ← numbered_at bytes
  Ok (answer.BadTable numbered.0.0 numbered.0.1, numbered.1)
