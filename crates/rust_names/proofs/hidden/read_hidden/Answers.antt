use Rattle.std.proofs.Common.{Some, None}
use Rattle.rust_names.specs.internal.Running.{at}
use Rattle.rust_names.proofs.RunLemmas.{ended, none_hidden}
use Rattle.rust_names.proofs.PassingLemmas.{path_read}
use Rattle.rust_names.proofs.hidden.read_hidden.Goals as goal

pub returns-in-Some-clause-read : goal.returns-in-Some-clause-read
returns-in-Some-clause-read c = λ bound text.
    let begin = at c.args.ahead.now.rest.now c.clear-2.new.self.items c.args.ahead.now.opened in
    let is = rw c.in-Some.is at c.in_ok-stop.ensures.read in
    path_read c.args.name.now c.args.levels bound c.clear.new.self.items c.push.new.self.items c.args.ahead.now.rest.now text c.clear-2.new.self.items c.args.ahead.now.opened (Some (at c.in-Some.stop.rest.now c.read_frames.new.room.text.items c.read_frames.new.room.opened)) c.clear.ensures.items c.in_ok-push.ensures.items c.clear-2.ensures.items
    (ended c.args.name.now c.push.new.self.items c.read_frames.new.room.stack.items begin _ c.read_frames.new.room.text.items c.read_frames.new.room.opened c.in-Some.stop is (none_hidden c.args.name.now c.push.new.self.items c.read_frames.new.room.stack.items begin c.read_frames.new.room.text.items c.read_frames.new.room.opened c.in-Some.stop is))

pub returns-in-None-clause-read : goal.returns-in-None-clause-read
returns-in-None-clause-read c = λ bound text.
    path_read c.args.name.now c.args.levels bound c.clear.new.self.items c.push.new.self.items c.args.ahead.now.rest.now text c.clear-2.new.self.items c.args.ahead.now.opened None c.clear.ensures.items c.in_ok-push.ensures.items c.clear-2.ensures.items (rw c.in-None.is at c.in_ok-stop.ensures.read)
