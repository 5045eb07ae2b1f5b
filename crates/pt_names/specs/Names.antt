-- The twelve formats, by their names in a script.
use Rattle.pt_model.specs.declared.command.Name.{Name}
use Rattle.pt_model.specs.declared.command.Name.TheVariants.{AmdV1, VtdSs3, VtdSs4, VtdSs5, X86L4, X86L5, Vmsa4, Vmsa16, Vmsa64, Sv39, Sv48, Sv57}
use Rattle.pt_model.specs.Layout.{Layout}
use Rattle.fmt_amdv1.specs.AmdWords as amd
use Rattle.fmt_vtdss.specs.VtdWords as vtd
use Rattle.fmt_x86.specs.X86Words as x86
use Rattle.fmt_vmsa.specs.VmsaWords as vmsa
use Rattle.fmt_riscv.specs.RiscvWords as riscv

abbrev pub layout_of : Name → Layout
layout_of AmdV1 = amd.layout
layout_of VtdSs3 = vtd.layout 3
layout_of VtdSs4 = vtd.layout 4
layout_of VtdSs5 = vtd.layout 5
layout_of X86L4 = x86.layout 4
layout_of X86L5 = x86.layout 5
layout_of Vmsa4 = vmsa.layout 12
layout_of Vmsa16 = vmsa.layout 14
layout_of Vmsa64 = vmsa.layout 16
layout_of Sv39 = riscv.layout 3
layout_of Sv48 = riscv.layout 4
layout_of Sv57 = riscv.layout 5
