use Rattle.std.proofs.Common.{sym, subst}
use Rattle.dividing.specs.Laws.{Divides}
use Rattle.dividing.specs.Views.{net_of, blocks_of}
use Rattle.dividing.proofs.Meeting.{met_rightly, divides}
use Rattle.dividing.proofs.Viewing.{view_fit, view_standing}
use Rattle.dividing.proofs.divide.promises.Goals as goal

pub returns : goal.returns
returns g c =
    let m = g.M.Machine.meaning c.args.machine.now in
    let p = c.args.partition.now in
    record {
      met = met_rightly m (net_of p) (view_fit p) (blocks_of p) (view_standing p);
      divides = subst (Divides m (net_of p) (blocks_of p)) (sym c.requires.kept.blocks) (divides m (net_of p) (view_fit p) (blocks_of p) (view_standing p));
    }
