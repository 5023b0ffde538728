mod Kept
mod WaitingRows
