-- To believe: Admission, which refusals a call on a row, a state or a position begins with.
pub mod Admission
