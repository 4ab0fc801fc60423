use Rattle.vp_model.specs.Types.log_record
use Rattle.vp_records.proofs.Held.{held_by, applied_keys, restored_keys}
use Rattle.vp_records.proofs.durable.Durable.apply.Goals as goal

pub returns-in-Outcome-clause-held : goal.returns-in-Outcome-clause-held
returns-in-Outcome-clause-held c =
    held_by _ _ _ c.end_doubt.result (applied_keys (log_record.Outcome c.in-Outcome.txn c.in-Outcome.commit) c.args.self.now) c.end_doubt.ensures.ok c.end_doubt.ensures.err

pub returns-in-Commit-clause-held : goal.returns-in-Commit-clause-held
returns-in-Commit-clause-held c =
    held_by _ _ _ c.commit.result (applied_keys (log_record.Commit c.in-Commit.txn c.in-Commit.view c.in-Commit.writes c.in-Commit.waiting) c.args.self.now) c.commit.ensures.ok c.commit.ensures.err

pub returns-in-Copy-clause-held : goal.returns-in-Copy-clause-held
returns-in-Copy-clause-held c =
    held_by _ _ _ c.set_copy.result (applied_keys (log_record.Copy c.in-Copy.rec c.in-Copy.stored) c.args.self.now) c.set_copy.ensures.ok c.set_copy.ensures.err

pub returns-in-Checkpoint-clause-held : goal.returns-in-Checkpoint-clause-held
returns-in-Checkpoint-clause-held c =
    held_by _ _ _ c.restore.result (restored_keys c.in-Checkpoint.copies c.args.self.now.copies) c.restore.ensures.ok c.restore.ensures.err

pub returns-in-CommitOfValues-clause-held : goal.returns-in-CommitOfValues-clause-held
returns-in-CommitOfValues-clause-held c =
    held_by _ _ _ c.commit-in-CommitOfValues.result (applied_keys (log_record.Commit c.in-CommitOfValues.txn c.in-CommitOfValues.view c.in-CommitOfValues.writes c.in-CommitOfValues.waiting) c.args.self.now) c.commit-in-CommitOfValues.ensures.ok c.commit-in-CommitOfValues.ensures.err

pub returns-in-CopyOfValue-clause-held : goal.returns-in-CopyOfValue-clause-held
returns-in-CopyOfValue-clause-held c =
    held_by _ _ _ c.set_copy-in-CopyOfValue.result (applied_keys (log_record.Copy c.in-CopyOfValue.rec c.in-CopyOfValue.stored) c.args.self.now) c.set_copy-in-CopyOfValue.ensures.ok c.set_copy-in-CopyOfValue.ensures.err

pub returns-in-CheckpointOfValues-clause-held : goal.returns-in-CheckpointOfValues-clause-held
returns-in-CheckpointOfValues-clause-held c =
    held_by _ _ _ c.restore-in-CheckpointOfValues.result (restored_keys c.in-CheckpointOfValues.copies c.args.self.now.copies) c.restore-in-CheckpointOfValues.ensures.ok c.restore-in-CheckpointOfValues.ensures.err
