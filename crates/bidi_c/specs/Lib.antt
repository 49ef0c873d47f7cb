-- What handles own, contain and let callers borrow, and what calls on them do.
pub mod Owned
pub mod BorrowedContents
pub mod ContentsIn
pub mod ContentsAt
pub mod AtHandles
pub mod LayingOut
pub mod Sharing
pub mod ShownAt
pub mod BaseAt
pub mod Fronts
pub mod MadeTables
pub mod JudgesAt
pub mod ReportsAt
