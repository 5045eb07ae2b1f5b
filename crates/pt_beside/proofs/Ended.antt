-- A run that is over, by the lines that its replies show.
use Rattle.std.proofs.Common.{◌≡◌, List, false}
use Rattle.pt_model.specs.declared.command.Command.{Command}
use Rattle.pt_model.specs.declared.reply.Answer.{Answer}
use Rattle.pt_model.specs.declared.reply.Reply.{Reply}
use Rattle.pt_model.specs.Run.{Machine, InForks, lacked_lines}
use Rattle.pt_laws.specs.Lines.{CommandsRise}
use Rattle.pt_laws.specs.Covers.{Stand, SoFar, PurseLasts}
use Rattle.pt_laws.specs.OneText.{PrintedUncovered}
use Rattle.pt_laws.proofs.Reading.{reads_itself}
use Rattle.pt_beside.specs.Places.{Place, stand, is_whole}
use Rattle.pt_beside.specs.Running.{IsRunByLines, RanWhole, IsWholeRun, Ran, IsRun}
use Rattle.pt_beside.proofs.Listing.{of_rise}
use Rattle.pt_beside.proofs.Passing.{branch_ran}

lasts : (IsTold : Answer → Type 0) (p q : Place) (cs : List Command) (rs : List Reply) → Ran IsTold p q cs rs → is_whole p ≡ false →
    PurseLasts p.machine cs (stand p) (stand q) rs
lasts IsTold p q cs rs ran part =
    let so : SoFar p.machine p.purse cs (stand q) rs = branch_ran IsTold p q cs rs ran part in
    record { keeps = so.by_need; lacks = so.lacks }

whole : (m : Machine) (s s' : Stand) (cs : List Command) (rs : List Reply) → PrintedUncovered → CommandsRise cs → RanWhole m s s' cs rs → IsWholeRun m s s' cs rs
whole m s s' cs rs printed rise ran =
    let is : IsRunByLines m (lacked_lines ran.inside) s s' cs rs ran.inside =
    ran.goes (lacked_lines ran.inside) (reads_itself ran.inside (of_rise cs ran.inside ran.inside_of rise)) in
    record {
      inside = ran.inside;
      is_run = is;
      uncovered = λ line e. printed m (InForks (lacked_lines ran.inside)) cs s s' rs ran.inside is.runs line e;
    }

pub is_run : (IsTold : Answer → Type 0) (p q : Place) (cs : List Command) (rs : List Reply) → PrintedUncovered → CommandsRise cs → Ran IsTold p q cs rs →
    IsRun IsTold p q cs rs
is_run IsTold p q cs rs printed rise ran = record {
  told = ran.told;
  goes = ran.goes (lacked_lines rs) (reads_itself rs (of_rise cs rs ran.are_of rise));
  lasts = lasts IsTold p q cs rs ran;
  whole = λ h. whole p.machine (stand p) (stand q) cs rs printed rise (ran.whole h);
}
